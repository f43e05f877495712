pub mod Ranges
pub mod Torn
pub mod Choices
pub mod Items
pub mod Commands
pub mod Settings
pub mod Scenario
