-- Why the definitions of the rules and the code agree.
pub mod RuleLemmas
pub mod SearchLemmas
pub mod PlayListLemmas
pub mod LawLemmas
