pub mod CallLaws
pub mod LayLaws
pub mod RoundTrips
pub mod Cases
pub mod DrawLaws
