-- Why the functions do what those that they call do.
pub mod ClientLemmas
pub mod ManyLinesLemmas
pub mod PlayerLemmas
pub mod EventLemmas
pub mod TurnLemmas
-- Why what is put into a record is the value.
pub mod LooseValues
pub mod HandleValues
pub mod NumberLemmas
pub mod RoomLemmas
pub mod WireLemmas
