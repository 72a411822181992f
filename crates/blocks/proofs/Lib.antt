pub mod BlockLaws
pub mod TextLaws
