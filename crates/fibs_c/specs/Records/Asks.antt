-- Decisions with their boards, as C gets them.
use Rattle.std.specs.Prelude.{◌≡◌, Option, None, Some}
use Rattle.fibs_session.specs.History.Words.{Ask}
use Rattle.fibs_c.specs.Records.BoardOf.{IsBoardAs}
use Rattle.fibs_c.specs.Records.Decisions.{IsDecisionAs, IsKind}
use Rattle.fibs_c.specs.declared.records.outstanding.OutstandingRecord.{OutstandingRecord}

-- a decision with its board is given
pub record IsAskAs (old out : OutstandingRecord) (a : Ask) : Type 0 where
  pub board : IsBoardAs old.board out.board a.0
  pub decision : IsDecisionAs out.decision a.1

-- this one, or none, and then no board is written
abbrev pub IsMaybeAsk : OutstandingRecord → OutstandingRecord → Option Ask → Type 0
IsMaybeAsk old new None = IsKind new.decision 0 × (new.board ≡ old.board)
IsMaybeAsk old new (Some a) = IsAskAs old new a
