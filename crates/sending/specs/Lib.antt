pub mod Sending
pub mod Acks
