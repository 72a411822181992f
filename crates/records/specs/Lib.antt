pub mod Identities
pub mod Records
pub mod Outcomes
pub mod Marking
pub mod Judging
