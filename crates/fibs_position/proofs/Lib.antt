-- Why the definitions of positions and the code agree.
pub mod BoardLemmas
pub mod DecidingLemmas
pub mod LawLemmas
