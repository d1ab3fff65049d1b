pub mod Breaking
pub mod Rows
pub mod Tellings
pub mod Titles
pub mod Told
pub mod Watched
pub mod Words
