-- Boards and what they say of a position.
pub mod CountLines
pub mod SetFields
pub mod ChangedFields
pub mod ViewAfter
pub mod AfterMove
pub mod EffectTable
pub mod GoodTest
pub mod SameGameTest
pub mod GamePartGroups
pub mod NumberRanges
pub mod WatchedTest
pub mod SeenBoards
