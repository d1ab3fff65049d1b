-- What a conversation with the server prints itself, and how it ends.
pub mod Players
pub mod Seats
pub mod Ending
