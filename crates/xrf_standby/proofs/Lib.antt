pub mod Acts
pub mod Answering
pub mod Reading
pub mod Roles
pub mod Starting
pub mod Through
