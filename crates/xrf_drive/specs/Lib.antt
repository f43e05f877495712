pub mod Scenario
pub mod Turns
pub mod Drawn
pub mod Tries
