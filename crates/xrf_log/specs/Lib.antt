pub mod Flight
pub mod Scan
pub mod Taken
pub mod Kept
pub mod Scanning
