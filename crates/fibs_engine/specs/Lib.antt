pub mod Escape
pub mod Printing
pub mod Readings
pub mod Reads
pub mod Status
pub mod Streams
pub mod Writing
