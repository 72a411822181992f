pub mod Held
pub mod Grounds
pub mod Fits
pub mod Spots
