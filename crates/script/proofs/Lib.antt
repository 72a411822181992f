pub mod ShapeLaws
pub mod TableLaws
pub mod KeepLaws
