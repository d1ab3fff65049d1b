-- How the world of the program corresponds to the machine, and what its calls do.
pub mod LinksOf
pub mod WireLinks
pub mod WorldOf
pub mod Crossings
pub mod Calls
pub mod HearingOf
pub mod WorldCalls
pub mod Settling
pub mod Carrying
pub mod Ways
pub mod WireOf
pub mod ServerOf
pub mod EventOf
pub mod EntryOf
pub mod RefusalNames
-- The machine over the events of a world, of backgammon.
pub mod Wires
pub mod Server
pub mod Events
pub mod World
pub mod Refusals
pub mod Runs
-- What holds of it, of backgammon: the headline, and the other statements.
pub mod Headline
pub mod Once
pub mod Stale
pub mod Acts
pub mod Joint
pub mod Agrees
pub mod CanRest
pub mod Laws
