pub mod Faults
pub mod Spelling
pub mod ReadingLaws
pub mod SignalLaws
