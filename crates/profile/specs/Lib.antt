pub mod Counting
pub mod Rules
pub mod Sample
