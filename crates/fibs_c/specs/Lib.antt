-- What a function for C does, as C sees it.
pub mod LinesDoor
pub mod ManyLines
pub mod ReadingsDoor
pub mod BoardDoor
pub mod BoardLineDoor
pub mod PositionDoor
pub mod EffectDoor
pub mod TurnDoor
pub mod ClientDoor
pub mod OrderDoor
pub mod OwnLineDoor
pub mod FeedDoor
pub mod DirectoryDoor
pub mod PlayerDoor
pub mod EventsDoor
pub mod WordsDoor
pub mod SavedDoor
-- What only private functions and proofs say.
pub mod ReadingOn
-- What C sees: records, statuses, handles and the wire.
pub mod Records
