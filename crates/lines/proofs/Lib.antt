pub mod ShapeLaws
pub mod HexLaws
pub mod SayLaws
pub mod KeepLaws
pub mod NameLaws
pub mod TextLaws
