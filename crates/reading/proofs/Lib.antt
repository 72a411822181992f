pub mod ReadLaws
pub mod RowLaws
pub mod WalkLaws
