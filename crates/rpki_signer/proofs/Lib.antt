pub mod Keyrings
pub mod LongSigners
pub mod Promises
pub mod Random
pub mod States
pub mod ToySigners
