-- Why words determine their board, how rows grow, and how they are broken.
pub mod Growing
pub mod Breaking
pub mod Saying
pub mod Rows
pub mod Places
pub mod Peeling
pub mod Plain
pub mod Named
pub mod Tells
pub mod Watched
pub mod Joining
