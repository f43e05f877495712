pub mod Offering
pub mod Pacing
pub mod Answering
pub mod Threaded
pub mod Turns
