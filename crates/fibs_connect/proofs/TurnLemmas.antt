-- What a turn does, act by act.
pub mod Wrote
pub mod Scripts
pub mod Hearing
pub mod Typed
pub mod Turns
pub mod Stops
pub mod Printed
pub mod Noted
pub mod Reads
pub mod Seen
pub mod Faults
