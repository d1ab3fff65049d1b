-- Laws of the machine of a client, why the calls of the client agree with it, and why `fibs` is a game.
pub mod History
pub mod Calls
pub mod Game
pub mod TypedLemmas
