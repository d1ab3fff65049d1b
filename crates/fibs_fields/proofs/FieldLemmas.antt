-- Fields of a line: their values, their faults, what is left after them.
pub mod Equality
pub mod FieldFaults
pub mod FieldValues
pub mod NameFronts
pub mod Options
pub mod Runs
pub mod Spaces
pub mod Splits
