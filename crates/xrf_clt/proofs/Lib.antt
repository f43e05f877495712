pub mod Joining
pub mod Rows
pub mod Faultless
pub mod Whole
pub mod Later
pub mod Within
