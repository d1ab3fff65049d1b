-- Logins and turns of a conversation.
pub mod Logins
pub mod PlayerLines
pub mod Seats
