pub mod IdentityLaws
pub mod RecordLaws
pub mod PartyLaws
pub mod OutcomeLaws
pub mod MaskLaws
pub mod JudgeLaws
pub mod MarkLaws
pub mod Cases
