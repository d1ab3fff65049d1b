-- What a caller reads: messages and whole lines, whose fields and boards are those of fibs_fields.
pub mod Message
pub mod FieldOf
pub mod Flags
pub mod Line
-- What only private functions and proofs say; on the reading of a line rests `reading_value` too.
pub mod Bits
pub mod LineReading
pub mod Rated
pub mod Settings
-- What a caller reads: the directory of the players that the server listed.
pub mod Directory
