pub mod Record
pub mod Grants
pub mod Writes
pub mod Watch
pub mod Decisions
