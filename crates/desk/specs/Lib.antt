pub mod Desks
pub mod Numbers
pub mod Orders
pub mod Notices
pub mod Grounds
pub mod Steps
pub mod Outputs
pub mod Changes
