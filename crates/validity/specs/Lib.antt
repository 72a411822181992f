pub mod Parts
pub mod Validity
