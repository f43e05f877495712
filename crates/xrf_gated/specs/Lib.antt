pub mod Landing
pub mod Slots
