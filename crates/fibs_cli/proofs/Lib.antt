-- Why the program and its accounts print what the definitions say.
pub mod ProgramLemmas
mod LogLemmas
mod ReplayLemmas
mod TellingLemmas
