pub mod Rows
pub mod Ledger
pub mod Steps
pub mod Keeping
