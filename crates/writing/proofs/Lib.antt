pub mod WroteLaws
pub mod PartLaws
pub mod LengthLaws
pub mod LayLaws
pub mod RoundTrips
pub mod RowLaws
pub mod Cases
