pub mod CommandsAreTold
pub mod WorksAsDue
