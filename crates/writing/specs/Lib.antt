pub mod Wrote
pub mod Parts
pub mod Writing
