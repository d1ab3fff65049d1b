-- One turn of a client with its stream: the typed line, the lines that are heard, and the end of the connection.
use Rattle.std.specs.Prelude.{◌≡◌, ◌≢◌, ◌<◌, ℕ, Bool, true, false, List, [], ◌∷◌, ◌++◌, length, take, ◌⊎◌, Option, Some, None, option_map}
use Rattle.std.specs.Borrow.{Bor}
use Rattle.std.specs.Io.KnownBytes.{Consumes}
use Rattle.fibs_lines.specs.Lines.{lines_of}
use Rattle.fibs_session.specs.History.Machine.{Talk, Lose, Piece, step, is_online, unconfirmed_now}
use Rattle.fibs_session.specs.Calls.SessionOf.{ask_of}
use Rattle.fibs_session.specs.Calls.Standing.{ClientValue, StandsAfter}
use Rattle.fibs_connect.specs.declared.turns.Ending.{Ending}
use Rattle.fibs_connect.specs.declared.turns.Ending.TheVariants.{Quiet, Lost}
use Rattle.fibs_engine.specs.Writing.{Progress, Whole, Broken}
use Rattle.fibs_connect.specs.Told.{SaidValue, lost_said}
use Rattle.fibs_connect.specs.Account.{Accounts}
use Rattle.fibs_connect.specs.Turns.Acts.{Act, only_tell}
use Rattle.fibs_connect.specs.Turns.Lines.{piece_acts}
use Rattle.fibs_connect.specs.Turns.Typing.{talk_after, typed_acts}
use Rattle.fibs_connect.specs.Turns.Script.{Outside, Did, Silent, untold}

abbrev pub bytes_of : Option (Bor (List ℕ)) → Option (List ℕ)
bytes_of None = None
bytes_of (Some typed) = Some typed.now

-- a stream is given
abbrev pub is_there : {S : Type 0} → Option S → Bool
is_there None = false
is_there (Some s) = true

-- the caller's condition: a stream is given exactly if the client is online, by some history that reaches it
abbrev pub FitsStream : ClientValue → Bool → Type 0
FitsStream client given = (t : Talk) × StandsAfter client t × (is_online t ≡ given)

-- the same at the next turn: after Quiet a stream is given as before, after Lost none
abbrev pub still_given : Ending → Bool → Bool
still_given Quiet given = given
still_given (Lost waited) given = false

-- ---- lines that are heard

-- no shorter front of the bytes ends as many lines of the stream
abbrev pub EndsALine : List ℕ → List ℕ → Type 0
EndsALine stream fed = (n : ℕ) → n < length fed → lines_of (stream ++ take n fed) ≢ lines_of (stream ++ fed)

-- all is fed; or just up to the end of the line at which a fault comes
abbrev pub Extent : Progress → List ℕ → List ℕ → List ℕ → Type 0
Extent Whole stream fed rest = rest ≡ []
Extent Broken stream fed rest = EndsALine stream fed × (0 < length fed)

-- a front of these bytes was fed to a client reached by t, all of them or up to the end of a line; `Does` says how what
-- its lines call for was done
pub record Talked (t : Talk) (new : ClientValue) (bytes : List ℕ) (far : Progress) (Does : List Act → Type 0) :
    Type 0 where
  pub fed : List ℕ
  pub rest : List ℕ
  pub cut : bytes ≡ fed ++ rest
  pub extent : Extent far t.stream fed rest
  pub stands : StandsAfter new (step t (Piece fed)).talk
  pub did : Does (piece_acts t fed)

-- ---- the end

-- the end of a connection is reported
abbrev pub end_acts : Ending → List Act
end_acts Quiet = []
end_acts (Lost waited) = only_tell (lost_said (option_map ask_of waited)) ∷ []

-- how the client that t reaches is at the end. Quiet comes only if every write went well; what is lost is
-- what the history says is unconfirmed
abbrev pub LeavesAs : Ending → Progress → Talk → ClientValue → Type 0
LeavesAs Quiet p t new = StandsAfter new t × (p ≡ Whole)
LeavesAs (Lost waited) p t new = StandsAfter new (step t Lose).talk × (option_map ask_of waited ≡ unconfirmed_now t)

-- how a turn ends: what is reported of its end, and how the client is left
pub record Ended {F : Type 0} (Tells : F → List SaidValue → F → Type 0) (p : Progress) (t : Talk) (new : ClientValue)
    (a b : Outside F) (e : Ending) : Type 0 where
  pub did : Did Tells a b (end_acts e) Whole
  pub leaves : LeavesAs e p t new

-- ---- all of it

-- what a turn takes in: the bytes that were read, and the front of them that was fed
pub record Intake (left still : Option (List ℕ)) : Type 0 where
  pub read : List ℕ
  pub took : Consumes left still read
  pub fed : List ℕ
  pub rest : List ℕ
  pub cut : read ≡ fed ++ rest

-- all is fed; after a failed write just up to the end of the line whose command failed, and nothing if that of the
-- typed line failed
abbrev pub IntakeExtent : Progress → List ℕ → List ℕ → List ℕ → Type 0
IntakeExtent Whole stream fed rest = rest ≡ []
IntakeExtent Broken stream fed rest = EndsALine stream fed

-- a client reached by t made the typed call, then it was fed the bytes that were read, and then it lost its
-- connection if it is lost; what that calls for was done, in this order
pub record TurnedBy {F : Type 0} (Tells : F → List SaidValue → F → Type 0) (t : Talk) (new : ClientValue)
    (typed left still : Option (List ℕ)) (a b : Outside F) (e : Ending) : Type 0 where
  pub intake : Intake left still
  pub progress : Progress
  pub extent : IntakeExtent progress t.stream intake.fed intake.rest
  pub mid : Outside F
  pub did : Did Tells a mid (typed_acts t typed ++ piece_acts (talk_after t typed) intake.fed) progress
  pub ended : Ended Tells progress (step (talk_after t typed) (Piece intake.fed)).talk new mid b e
  pub offline : is_online t ≡ false → intake.read ≡ []
  pub quiet : is_online t ≡ false → e ≡ Quiet

-- the same for a writer, on which what is reported is printed
abbrev pub Turned : Talk → ClientValue → Option (List ℕ) → Option (List ℕ) → Option (List ℕ)
    → Outside (Option (List ℕ)) → Outside (Option (List ℕ)) → Ending → Type 0
Turned = TurnedBy Accounts

-- ---- a front end that fails

-- all that was read is heard; or the turn stops at the end of a line, all of whose commands were written, and what was
-- read behind that line is not heard
abbrev pub StopsAt : Ending → List ℕ → List ℕ → List ℕ → Type 0
StopsAt e stream fed unheard = (unheard ≡ []) ⊎ ((e ≡ Quiet) × EndsALine stream fed × (0 < length fed))

-- the client is as after its last finished call, by a turn of which nobody is told: one reached by t made the typed
-- call, then it was fed the bytes that were read, all or up to the end of a line, and then it may have lost its
-- connection. The commands of these calls were written, if a write failed all but a part of the last
pub record Stopped (t : Talk) (new : ClientValue) (typed left still wrote now : Option (List ℕ)) : Type 0 where
  pub heard : Option (List ℕ)
  pub unheard : List ℕ
  pub ending : Ending
  pub turned : TurnedBy Silent t new typed left heard (untold wrote) (untold now) ending
  pub behind : Consumes heard still unheard
  pub stops : StopsAt ending t.stream turned.intake.fed unheard
