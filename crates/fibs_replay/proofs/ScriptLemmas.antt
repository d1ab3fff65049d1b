-- Scripts of events, and the lines of the log.
pub mod EventTexts
pub mod Events
pub mod Lines
pub mod Scripts
pub mod Outputs
pub mod Reads
