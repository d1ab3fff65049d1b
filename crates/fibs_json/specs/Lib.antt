pub mod Json
pub mod Values
pub mod Columns
pub mod Boards
pub mod Lines
pub mod Places
pub mod Streams
pub mod Plays
pub mod Told
-- What only private functions and proofs say.
pub mod Parts
pub mod Events
pub mod Counting
pub mod Asked
pub mod Eventful
-- What only private functions and proofs say.
pub mod Passing
