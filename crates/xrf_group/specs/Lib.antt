pub mod Orders
pub mod Group
pub mod Theorem
