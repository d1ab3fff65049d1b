-- Why what the eye sees tells a board, what was written is kept, `go` sends the move that `try` showed, a decision goes
-- past the client only on the server's word, and who would leave a match, or begins one for which the server plays, is
-- asked once.
pub mod AgainLemmas
pub mod GrownLemmas
pub mod AboveLemmas
pub mod DrawingLemmas
pub mod SentLemmas
pub mod TellingLemmas
pub mod TryingLemmas
pub mod TypedMoveLemmas
pub mod FittingLemmas
pub mod FixingLemmas
pub mod RecordingLemmas
pub mod ReportedLemmas
pub mod RespellingLemmas
pub mod SendingLemmas
pub mod KeptListLemmas
pub mod OwnWordLemmas
pub mod LeavingLemmas
pub mod BeginningLemmas
pub mod TalkingLemmas
pub mod TogglesLemmas
pub mod ShownLemmas
