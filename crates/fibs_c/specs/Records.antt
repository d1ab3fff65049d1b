-- What C sees.
pub mod Statuses
pub mod Texts
pub mod Fields
pub mod Kinds
pub mod Decisions
pub mod BoardOf
pub mod Asks
pub mod Wires
pub mod EventOf
-- What a handle owns. Only its own functions cite it.
pub mod Handles
