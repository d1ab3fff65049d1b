-- The laws of positions and decisions.
pub mod CarriedOut
pub mod InARow
pub mod AllowedDecisions
pub mod Equality
pub mod OwnNumbers
