-- What a caller reads: what is printed of a stream, and of the plays of a board.
pub mod Show
pub mod Plays
-- What checking a line answered.
pub mod Checked
-- What only private functions and proofs say.
pub mod RightNumbers
pub mod Standing
