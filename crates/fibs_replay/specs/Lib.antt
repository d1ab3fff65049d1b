-- How a script is run on a world, what is printed then, and what its carrier is given.
pub mod Carried
pub mod Running
-- A script of events, the lines that are printed for it, and how many bytes each may have.
pub mod Limits
pub mod EventLines
pub mod EventReading
pub mod Scripts
pub mod LogLines
pub mod Output
pub mod Passing
