pub mod Again
pub mod Limits
pub mod Equal
pub mod LimitLaws
