pub mod Control
pub mod Places
pub mod Layout
pub mod Faults
pub mod Reading
pub mod Signal
