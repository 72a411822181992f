pub mod Blocks
pub mod Texts
