-- From the fields of a session to the history: what more entries change.
pub mod Texts
pub mod Fields
pub mod Steps
pub mod GoesOn
pub mod Due
pub mod Joins
pub mod Owing
