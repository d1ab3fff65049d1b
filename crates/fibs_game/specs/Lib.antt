-- What one has to know of a game, its laws, and why a client and a world refuse.
pub mod Game
pub mod Lawful
pub mod RefusalNames
pub mod WorldRefusalNames
-- What is noted, and what a history says of a connection.
pub mod Log
pub mod Words
pub mod Orders
pub mod Numbering
-- The client.
pub mod Hearing
pub mod Machine
pub mod MachineLaws
-- The machine over the events of a world: the wires, the server, the events, and which are refused.
pub mod Wires
pub mod Server
pub mod Events
pub mod World
pub mod Refusals
pub mod Runs
pub mod Talks
-- What holds of it: the headline, and the other statements.
pub mod Headline
pub mod Once
pub mod Stale
pub mod Acts
pub mod Joint
pub mod Agrees
pub mod CanRest
pub mod Laws
-- Small examples.
pub mod Counter
pub mod Examples
