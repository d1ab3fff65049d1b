-- Backgammon as FIBS plays and spells it, as a game.
pub mod Fibs
pub mod Owed
-- What is noted of a client, the client as a machine over its inputs, and what the calls do by it.
pub mod History
pub mod Calls
-- What a line that a user types is.
pub mod Typing
pub mod TypedOf
-- Which lines decide in the game.
pub mod OwnLines
