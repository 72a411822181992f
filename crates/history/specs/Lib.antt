pub mod Histories
pub mod Radio
pub mod Hosts
