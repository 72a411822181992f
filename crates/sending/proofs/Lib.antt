pub mod SendLaws
pub mod SentLaws
pub mod AckLaws
