pub mod Measure
pub mod Agreeing
pub mod Saying
pub mod Resting
