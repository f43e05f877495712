pub mod SetLaws
pub mod WritingLaws
