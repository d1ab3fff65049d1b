-- Why a directory stays that of its messages.
pub mod Ends
pub mod Told
pub mod Entries
pub mod Notes
pub mod Maps
pub mod One
