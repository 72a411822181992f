pub mod ValidLaws
pub mod RowLaws
pub mod SameLaws
pub mod Cases
