pub mod Console
pub mod Drawing
