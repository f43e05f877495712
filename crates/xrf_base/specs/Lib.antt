pub mod Padding
pub mod Names
pub mod Values
pub mod Ranges
pub mod Numbers
pub mod Zeros
