-- What the server has shown: which play leads from one board to another, and what has happened between them; what it
-- says of the login.
pub mod Mirrored
pub mod Played
pub mod Ends
pub mod Happenings
pub mod Known
pub mod Remembered
pub mod Reported
pub mod Listed
pub mod Said
pub mod Told
pub mod Texts
pub mod Asking
pub mod InOrder
