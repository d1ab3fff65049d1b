-- What a caller reads: the rules of play, from one step up to the legal plays of a turn.
pub mod Hop
pub mod PlayValue
pub mod Checkers
pub mod OneChecker
pub mod Runs
pub mod LegalPlays
pub mod LaxPlays
pub mod Laws
-- What only private functions and proofs say.
pub mod Reached
pub mod ReachedValue
pub mod Search
pub mod PlayNumber
