-- Whole lines and what they say.
pub mod ReadingEquality
pub mod ReadingValues
pub mod Readings
