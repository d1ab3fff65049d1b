-- What a conversation and a turn do, what is reported to a front end and printed for it, what is typed, and
-- whether that or the server comes first.
pub mod Converse
pub mod Turns
pub mod Told
pub mod SaidOf
pub mod Lines
pub mod Account
pub mod TypedLines
pub mod TypedReads
pub mod Weaving
pub mod Wishes
