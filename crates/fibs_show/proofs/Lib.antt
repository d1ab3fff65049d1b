-- Why what is printed is what the definitions say.
pub mod ShowLemmas
pub mod LiteralMessages
pub mod PlaysLemmas
-- Why numbers that are found right at once are right, and why a line whose fields are spelled as they are printed is a
-- message's canonical line.
pub mod LineLemmas
