pub mod FieldLaws
pub mod WordLaws
pub mod PutLaws
pub mod SetLaws
pub mod Stands
pub mod RoundLaws
pub mod Cases
