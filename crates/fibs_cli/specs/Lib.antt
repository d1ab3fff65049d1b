-- What a caller reads: what the program does with a command line, and the accounts as JSON.
pub mod Program
pub mod Entries
pub mod Endings
pub mod Replayed
-- What only private functions and proofs say.
pub mod Printing
pub mod Said
