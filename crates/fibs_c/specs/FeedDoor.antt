-- What `fibs_client_feed` does.
use Rattle.std.specs.Prelude.{◌≡◌, ℕ, ◌<◌, ◌≤◌, ◌⊎◌, List, [], length, take, drop, Option, None, Some}
use Rattle.fibs_lines.specs.Lines.{kept_limit}
use Rattle.fibs_messages.specs.Line.{text_line}
use Rattle.fibs_position.specs.DecisionValue.{DecisionValue}
use Rattle.fibs_session.specs.Calls.Feeding.{FeedAnswers}
use Rattle.fibs_session.specs.Calls.SessionOf.{TakenValue}
use Rattle.fibs_session.specs.Calls.Standing.{ClientValue}
use Rattle.fibs_session.specs.History.Machine.{Piece}
use Rattle.fibs_session.specs.History.Words.{Ask}
use Rattle.fibs_c.specs.ClientDoor.{DoesOnWire}
use Rattle.fibs_c.specs.Records.Decisions.{IsMaybeDecision}
use Rattle.fibs_c.specs.Records.Kinds.{told_kind}
use Rattle.fibs_c.specs.Records.Texts.{flag_of}
use Rattle.fibs_c.specs.Records.Wires.{IsEmptied}
use Rattle.fibs_c.specs.declared.feeding.Heard.{Heard}
use Rattle.fibs_c.specs.declared.records.wire.WireRecord.{WireRecord}

-- the decision alone
abbrev pub decision_of_ask : Option Ask → Option DecisionValue
decision_of_ask None = None
decision_of_ask (Some a) = Some a.1

-- what C gets of a line: its bytes, whether it had more, what it is, the decision that it confirms, and whether a
-- standing order rolls; after its bytes the text is as it was
pub record TellsLine (v : TakenValue) (h : Heard) (text text' : List ℕ) : Type 0 where
  pub ended : h.ended ≡ 1
  pub few : h.len ≤ kept_limit
  pub len_is : h.len ≡ length (take kept_limit v.line.bytes)
  pub bytes : take h.len text' ≡ take kept_limit v.line.bytes
  pub rest : drop h.len text' ≡ drop h.len text
  pub cut : h.cut ≡ flag_of v.line.cut
  pub kind : h.kind ≡ told_kind v.reading
  pub confirmed : IsMaybeDecision h.confirmed (decision_of_ask v.confirmed)
  pub rolled : h.rolled ≡ flag_of v.rolled

-- no line ended, and no line is given
pub record TellsNone (h : Heard) (text text' : List ℕ) : Type 0 where
  pub ended : h.ended ≡ 0
  pub len : h.len ≡ 0
  pub cut : h.cut ≡ 0
  pub kind : h.kind ≡ told_kind (text_line [])
  pub confirmed : IsMaybeDecision h.confirmed None
  pub rolled : h.rolled ≡ 0
  pub unwritten : text' ≡ text

-- a line is given, or none
abbrev pub IsTold : Option TakenValue → Heard → List ℕ → List ℕ → Type 0
IsTold None h text text' = TellsNone h text text'
IsTold (Some v) h text text' = TellsLine v h text text'

-- what `Client::feed` does, and that C gets its answer
pub record Feeds (old new : ClientValue) (piece : List ℕ) (h : Heard) (text text' : List ℕ) (wire wire' : WireRecord)
    : Type 0 where
  pub in_range : h.used ≤ length piece
  pub progress : 0 < length piece → 0 < h.used
  pub does : DoesOnWire old new (Piece (take h.used piece)) wire wire'
  pub taken : Option TakenValue
  pub answers : FeedAnswers old piece h.used taken
  pub told : IsTold taken h text text'

-- or nothing is written, and the wire is empty
pub record FeedsNothing (h h' : Heard) (text text' : List ℕ) (wire wire' : WireRecord) : Type 0 where
  pub heard : h' ≡ h
  pub text_is : text' ≡ text
  pub emptied : IsEmptied wire wire'

-- a piece is fed, if the handle has a client
abbrev pub IsFedInRoom : Option ClientValue → Option ClientValue → List ℕ → Heard → Heard → List ℕ → List ℕ → WireRecord
    → WireRecord → ℕ → Type 0
IsFedInRoom None new piece h h' text text' wire wire' status =
    (status ≡ 501) × (new ≡ None) × FeedsNothing h h' text text' wire wire'
IsFedInRoom (Some c) None piece h h' text text' wire wire' status = ⊥
IsFedInRoom (Some c) (Some d) piece h h' text text' wire wire' status =
    (status ≡ 0) × Feeds c d piece h' text text' wire wire'

-- the same if there is room for a line, and else nothing was done
abbrev pub IsFed : Option ClientValue → Option ClientValue → List ℕ → Heard → Heard → List ℕ → List ℕ → WireRecord
    → WireRecord → ℕ → Type 0
IsFed old new piece h h' text text' wire wire' status =
    ((length text < kept_limit) × (status ≡ 503) × (new ≡ old) × FeedsNothing h h' text text' wire wire')
    ⊎ ((kept_limit ≤ length text) × IsFedInRoom old new piece h h' text text' wire wire' status)
