-- The laws of steps and plays.
pub mod Equality
pub mod PlaySteps
