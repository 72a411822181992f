pub mod Stops
pub mod Codec
pub mod Options
pub mod Breaks
pub mod Taking
