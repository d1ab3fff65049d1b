-- What a caller reads: the definitions and what the calls promise by them.
pub mod Lines
pub mod Standing
pub mod LinesValue
pub mod Feeding
pub mod Literal
pub mod StreamLaws
pub mod Questions
-- What only private functions say.
pub mod Progress
pub mod QuestionsSteps
