-- Messages: their table, their fields, their lines.
pub mod CanonicalLines
pub mod FieldTexts
pub mod Fronts
pub mod MessageEquality
pub mod MessageLines
pub mod MessageReadings
pub mod MessageTable
pub mod NumberWords
pub mod Rows
