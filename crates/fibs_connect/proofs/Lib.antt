-- Why a conversation, a turn and the reader of typed lines do what the definitions say.
pub mod ConverseLemmas
pub mod TurnLemmas
pub mod TypedLemmas
pub mod FirstLineLemmas
