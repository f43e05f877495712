pub mod Views
pub mod Owner
pub mod Waiting
pub mod Laws
pub mod Known
