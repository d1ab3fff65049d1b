-- The search for runs of steps.
pub mod BestSteps
pub mod LongestLoop
pub mod LongestRuns
pub mod FallingRuns
pub mod MostDice
pub mod SomeStep
pub mod FollowSteps
pub mod LegalTest
