pub mod CountLaws
pub mod ProfileLaws
