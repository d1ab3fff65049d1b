-- No line that is answered by commands is a message about players.
use Rattle.std.proofs.Common.{◌≡◌, ◌≢◌, ℕ, Bool, true, false, if◌then◌else◌, nat_eq, List, [], ◌∷◌, ◌++◌, Option, None, Some, refl, sym, ap, subst, ◌∙◌, arith}
use Rattle.std.specs.List.{AllByRecursion}
use Rattle.std.proofs.lemmas.Bool.Decides.{nat_tests}
use Rattle.fibs_lines.specs.Lines.{ReadLine}
use Rattle.fibs_messages.specs.Message.{MessageValue}
use Rattle.fibs_messages.specs.Line.{ReadingValue, numbered_line, board_line, text_line, malformed_line}
use Rattle.fibs_game.specs.Game.{welcomes, informs}
use Rattle.fibs_session.specs.History.Log.{Entry}
use Rattle.fibs_session.specs.History.Words.{open_now}
use Rattle.fibs_session.specs.History.Hearing.{Heard, heard, heard_says, nothing_heard, line_reading}
use Rattle.fibs_session.specs.History.Machine.{Talk, is_online, gained, wire_of}
use Rattle.fibs_engine.specs.Writing.{Progress, Whole, Broken}
use Rattle.fibs_connect.specs.Turns.Acts.{Act}
use Rattle.fibs_connect.specs.Turns.Lines.{line_acts, piece_acts, messages_in}
use Rattle.fibs_connect.specs.Turns.Typing.{talk_after, typed_acts}
use Rattle.fibs_session.specs.Typing.{typed_now}
use Rattle.fibs_connect.specs.Turns.Script.{InHand, acts_of}
use Rattle.fibs_connect.specs.Turns.NoteLaw.{TellsNothing, TurnsLeaveNoPlayer}
use Rattle.fibs_session.proofs.History.Joins.{message_heard}
use Rattle.fibs_connect.proofs.TurnLemmas.Typed.{typed_notes}

-- an act that writes something has no message about players
abbrev Telling : Act → Type 0
Telling act = act.writes ≢ [] → AllByRecursion TellsNothing act.notes

-- the same of each act
abbrev AllTelling : List Act → Type 0
AllTelling [] = Unit {0}
AllTelling (act ∷ acts) = Telling act × AllTelling acts

-- a number that is found to be one that is neither 5 nor 8 is neither itself
unlike : (n k : ℕ) → nat_eq n k ≡ true → nat_eq k 5 ≡ false → nat_eq k 8 ≡ false → (n ≢ 5) × (n ≢ 8)
unlike n k e f g = (grind (arith, nat_tests), grind (arith, nat_tests))

-- one of two answers by two tests, and else nothing
abbrev either : Bool → Bool → Heard → Heard → Heard
either a b g h = if a then g else (if b then h else nothing_heard)

-- if both tests fail nothing is sent
none_sent : (a b : Bool) (g h : Heard) → a ≡ false → b ≡ false → (either a b g h).send ≡ []
none_sent a b g h e f = ap (λ x. (either x b g h).send) e ∙ ap (λ y. (either false y g h).send) f

-- a message that is answered by commands is not about players
numbered : (c : ℕ) (log : List Entry) (m : MessageValue) → (heard c log (numbered_line m)).send ≢ [] → TellsNothing m
numbered c log m some = one (nat_eq m.number 1) refl
  where
    two : nat_eq m.number 1 ≡ false → (b : Bool) → nat_eq m.number 2 ≡ b → TellsNothing m
    two e true f = unlike m.number 2 f refl refl
    two e false f =
        absurd (some (ap (λ (h : Heard). h.send) (message_heard c log m)
        ∙ none_sent (nat_eq m.number 1) (nat_eq m.number 2) (heard_says c log welcomes) (heard_says c log (informs m))
        e f))

    one : (a : Bool) → nat_eq m.number 1 ≡ a → TellsNothing m
    one true e = unlike m.number 1 e refl refl
    one false e = two e (nat_eq m.number 2) refl

-- a line that calls for commands
line_telling : (log : List Entry) (r : ReadingValue) → wire_of (heard (open_now log) log r).send ≢ []
    → AllByRecursion TellsNothing (messages_in r)
line_telling log (numbered_line m) some = (numbered (open_now log) log m (λ e. some (ap wire_of e)), tt)
line_telling log (board_line b) some = tt
line_telling log (text_line text) some = tt
line_telling log (malformed_line number k f) some = tt

-- no line that calls for commands is a message about players
lines_telling : (log : List Entry) (ls : List ReadLine) → AllTelling (line_acts log ls)
lines_telling log [] = tt
lines_telling log (l ∷ ls) = (
  line_telling log (line_reading l),
  lines_telling
      (log ++ (heard (open_now log) log (line_reading l)).entries) ls,
)

-- no line of a piece that calls for commands is a message about players
piece_telling : (t : Talk) (bytes : List ℕ) → AllTelling (piece_acts t bytes)
piece_telling t bytes = go (is_online t)
  where
    go : (b : Bool) → AllTelling (if b then line_acts t.log (gained t.stream bytes) else [])
    go true = lines_telling t.log (gained t.stream bytes)
    go false = tt

-- what is typed notes nothing
typed_telling : (t : Talk) (typed : Option (List ℕ)) → AllTelling (typed_acts t typed)
typed_telling t None = tt
typed_telling t (Some text) = (
  λ some. subst (AllByRecursion TellsNothing)
      (sym (typed_notes t (typed_now t text))) tt,
  tt,
)

-- what holds of the acts of two scripts holds of both in a row
telling_joined : (xs ys : List Act) → AllTelling xs → AllTelling ys → AllTelling (xs ++ ys)
telling_joined [] ys h k = k
telling_joined (x ∷ xs) ys h k = (h.0, telling_joined xs ys h.1 k)

-- what holds of two scripts in a row holds of the second
telling_last : (xs ys : List Act) → AllTelling (xs ++ ys) → AllTelling ys
telling_last [] ys h = h
telling_last (x ∷ xs) ys h = telling_last xs ys h.1

-- a list that has an element behind its front is not empty
filled : (part rest : List ℕ) (missing : ℕ) → part ++ (missing ∷ rest) ≢ []
filled [] rest missing = λ h. absurd cc
filled (x ∷ part) rest missing = λ h. absurd cc

-- the act in hand at a failed write has no message about players
in_hand : (p : Progress) (hand : List Act) (part : List ℕ) → InHand p hand part → AllTelling hand
    → AllByRecursion (λ act. AllByRecursion TellsNothing act.notes) hand
in_hand Whole hand part h all = subst (AllByRecursion (λ act. AllByRecursion TellsNothing act.notes)) (sym h.0) tt
in_hand Broken hand part h all =
    let one = subst AllTelling h.3 all in
    subst (AllByRecursion (λ act. AllByRecursion TellsNothing act.notes)) (sym h.3)
    (one.0 (λ e. filled part h.2 h.1 (sym h.4 ∙ e)), tt)

-- what a turn leaves undone at a failed write has no message about players
pub turns_leave_no_player : TurnsLeaveNoPlayer
turns_leave_no_player t new typed left still a b e turned =
    let d = turned.did in
    let u = talk_after t typed in
    in_hand turned.progress d.hand d.part d.in_hand
    (telling_last (acts_of d.done) d.hand (subst AllTelling d.acts
    (telling_joined (typed_acts t typed) (piece_acts u turned.intake.fed) (typed_telling t typed)
    (piece_telling u turned.intake.fed))))
