pub mod Runs
pub mod Turns
pub mod Ending
pub mod Going
pub mod Lines
