pub mod Collected
pub mod Truths
pub mod Bounds
