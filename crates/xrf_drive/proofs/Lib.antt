pub mod ValueLaws
pub mod UnitLaws
pub mod TurnLaws
pub mod DriveLaws
