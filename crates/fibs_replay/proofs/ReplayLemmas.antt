-- A script of events is run, and what it led to is printed.
pub mod Runs
pub mod Carrying
