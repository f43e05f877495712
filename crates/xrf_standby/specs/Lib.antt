pub mod Alternate
pub mod Dues
pub mod LetThrough
pub mod Roles
pub mod Standing
pub mod Taking
