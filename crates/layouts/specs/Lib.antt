pub mod Bytes
pub mod Profiles
pub mod Values
