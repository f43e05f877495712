pub mod Changes
pub mod Dues
pub mod Failing
pub mod Promoting
pub mod Standing
pub mod Taking
