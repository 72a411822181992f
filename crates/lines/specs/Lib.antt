pub mod Shape
pub mod Saying
pub mod Parsing
