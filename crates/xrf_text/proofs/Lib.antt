pub mod Places
pub mod Words
pub mod Lines
pub mod Joined
pub mod Held
pub mod Blocks
pub mod Search
