pub mod LinesWait
pub mod JobsTold
pub mod Splits
pub mod Decided
pub mod GroupLaws
