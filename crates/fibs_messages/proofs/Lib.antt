-- Why the definitions of lines, of messages and of the directory, and the code agree.
pub mod LineLemmas
pub mod MessageLemmas
pub mod DirectoryLemmas
