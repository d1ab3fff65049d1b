-- Why a run prints what the definitions say, and the lines of a script are read as they say.
pub mod ReplayLemmas
pub mod ScriptLemmas
