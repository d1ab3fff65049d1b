-- Why texts only grow, how rows are broken, which matches are known to be saved, have ended or are listed.
pub mod GrowingLemmas
pub mod BrokenLemmas
pub mod EndingLemmas
pub mod RowLemmas
pub mod SavedLemmas
pub mod WordLemmas
