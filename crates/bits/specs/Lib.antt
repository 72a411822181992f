pub mod Fields
pub mod Puts
