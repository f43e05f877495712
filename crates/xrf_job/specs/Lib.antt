pub mod Stages
pub mod Rooms
pub mod Sharing
