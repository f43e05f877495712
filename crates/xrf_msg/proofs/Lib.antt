pub mod Joining
pub mod Fields
pub mod MessageLaws
pub mod GivenLaws
