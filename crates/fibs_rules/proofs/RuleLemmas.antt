-- The rules of steps and plays.
pub mod OneChecker
pub mod DiceParts
pub mod StepsSwap
pub mod HighestFirst
pub mod CheckerCounts
pub mod LaxPlays
