-- Why the definitions of lines and the code agree.
pub mod Parts
pub mod Streams
pub mod RunLemmas
pub mod LiteralLemmas
pub mod PromptLemmas
pub mod Advancing
pub mod ReturnLemmas
pub mod FeedLemmas
pub mod StreamLawProofs
pub mod WholeLemmas
pub mod SentLemmas
pub mod EndsCounted
pub mod LineEnds
pub mod WindowLemmas
mod QuestionsLemmas
