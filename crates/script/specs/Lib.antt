pub mod Shape
pub mod Profiles
pub mod Lines
