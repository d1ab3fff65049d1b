-- How lists of places grow, what a trial tells, how the steps that a line shows are read, which names are kept, and
-- what is advised.
mod AdvisedLemmas
mod BrokenRuleLemmas
mod PlacesLemmas
mod SituationLemmas
mod SpelledLemmas
mod TrialLemmas
pub mod SpellingLemmas
