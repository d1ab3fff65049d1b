-- From the fields of a session and a client to their history, call by call.
pub mod SessionLaws
pub mod ShownBoards
pub mod ClientLaws
pub mod ReadLaws
pub mod Resting
pub mod Runs
