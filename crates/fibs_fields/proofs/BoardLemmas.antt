-- Boards: their fields, their lines, their faults.
pub mod Backward
pub mod BoardEquality
pub mod BoardHeads
pub mod BoardTests
pub mod BoardTexts
pub mod CheckedLines
pub mod EachLine
pub mod FieldGroups
pub mod FieldRangeLaws
pub mod FieldTable
pub mod FirstFaults
pub mod Lengths
pub mod NextFields
pub mod OneNumberMore
pub mod Pieces
pub mod SmallNumbers
pub mod SpelledBoards
