pub mod FlightLaws
pub mod NewestLaws
pub mod Runs
