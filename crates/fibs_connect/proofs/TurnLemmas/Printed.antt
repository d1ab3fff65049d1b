-- The lines that a turn prints, without those of the directory.
use Rattle.std.proofs.Common.{◌≡◌, ℕ, Bool, true, false, cond, if◌then◌else◌, List, [], ◌∷◌, ◌++◌, map, codes, Option, None, Some, refl, sym, ap, subst, ◌∙◌, append_assoc, append-nil}
use Rattle.std.proofs.lemmas.List.{map-append}
use Rattle.std.proofs.lemmas.List.Concat.{flat_map-append}
use Rattle.std.specs.List.{flat_map}
use Rattle.std.specs.Io.KnownBytes.{Appends}
use Rattle.std.specs.Prelude.{option_map}
use Rattle.std.proofs.KnownBytes.{Appends-trans}
use Rattle.fibs_lines.specs.Lines.{ReadLine}
use Rattle.fibs_fields.specs.Board.{BoardFields}
use Rattle.fibs_messages.specs.Line.{ReadingValue, numbered_line, board_line, text_line, malformed_line}
use Rattle.fibs_position.specs.GoodBoard.{good}
use Rattle.fibs_game.specs.declared.refusal.Refusal.{Refusal}
use Rattle.fibs_session.specs.declared.histories.refusal.PlainRefusal.{PlainRefusal}
use Rattle.fibs_session.specs.declared.histories.refusal.PlainRefusal.TheVariants as P
use Rattle.fibs_session.specs.History.Log.{Entry}
use Rattle.fibs_session.specs.History.Words.{Ask, open_now}
use Rattle.fibs_session.specs.History.Hearing.{Heard, heard, line_reading}
use Rattle.fibs_session.specs.History.Machine.{Talk, Click, PlainInput, step, answer_now, plain_refusal, is_online, gained, order_refusal, withdraw_refusal}
use Rattle.fibs_messages.specs.declared.directory.fault.DirectoryFault.{DirectoryFault}
use Rattle.fibs_connect.specs.declared.turns.Ending.{Ending}
use Rattle.fibs_connect.specs.declared.turns.Ending.TheVariants.{Quiet, Lost}
use Rattle.fibs_engine.specs.Escape.{escaped}
use Rattle.fibs_engine.specs.Printing.{line_bytes}
use Rattle.fibs_position.specs.Phases.{phase_of}
use Rattle.fibs_connect.specs.Told.{SaidValue, phase_said, sent_said, ordered_said, withdrawn_said, refused_said, not_sent_said}
use Rattle.fibs_connect.specs.Account.{lines_of, printed_of, account_of}
use Rattle.fibs_session.specs.Calls.SessionOf.{ask_of}
use Rattle.fibs_connect.specs.Turns.Acts.{Act, answer_act}
use Rattle.fibs_connect.specs.Lines.{text_of_lines, lost_line, said_text, heard_text, plain_line}
use Rattle.fibs_connect.specs.Turns.Lines.{phase_told, confirmed_told, rolled_told, line_act, line_acts, piece_acts}
use Rattle.fibs_session.specs.Typing.{TypedValue, typed_decision, typed_plain, typed_order, typed_withdrawal, typed_none, typed_now}
use Rattle.fibs_connect.specs.Turns.Typing.{order_told, typed_act, typed_acts, talk_after}
use Rattle.fibs_connect.specs.Turns.Script.{Done, directory_told, done_told, acts_of, tells_of}
use Rattle.fibs_connect.specs.Turns.Turn.{end_acts}
use Rattle.fibs_connect.specs.Turns.PrintLaw.{is_directory_line, without_directory, lines_of_acts, TurnsPrintTheirActs}

-- the lines that are printed for it stay if the directory's go
abbrev Stays : SaidValue → Type 0
Stays s = (ms : List (List ℕ)) → without_directory (lines_of s ++ ms) ≡ lines_of s ++ without_directory ms

-- so do those of each of these
abbrev Plain : List SaidValue → Type 0
Plain [] = Unit {0}
Plain (s ∷ ss) = Stays s × Plain ss

-- each act reports such alone
abbrev PlainActs : List Act → Type 0
PlainActs [] = Unit {0}
PlainActs (a ∷ acts) = Plain a.tells × PlainActs acts

-- ---- the lines of all else

-- a line of the server is printed by a line that is not the directory's
said_is_plain : (bytes : List ℕ) (r : ReadingValue) → is_directory_line (said_text bytes r) ≡ false
said_is_plain bytes (numbered_line m) = refl
said_is_plain bytes (board_line b) = refl
said_is_plain bytes (text_line text) = refl
said_is_plain bytes (malformed_line number k f) = refl

-- nor is it if the line was cut
kept_is_plain : (cut : Bool) (bytes : List ℕ) (r : ReadingValue)
    → is_directory_line (if cut then codes "cut " ++ escaped bytes else said_text bytes r) ≡ false
kept_is_plain true bytes r = refl
kept_is_plain false bytes r = said_is_plain bytes r

-- a plain command that is refused is printed by a line that is not the directory's
not_sent_is_plain : (why : PlainRefusal) → is_directory_line (plain_line why) ≡ false
not_sent_is_plain P.Offline = refl
not_sent_is_plain P.NotOn = refl
not_sent_is_plain (P.Fault fault) = refl

-- the end of a connection is printed by a line that is not the directory's
lost_is_plain : (o : Option Ask) → is_directory_line (lost_line o) ≡ false
lost_is_plain None = refl
lost_is_plain (Some ask) = refl

-- a line that is not the directory's stays
line_stays : (line : List ℕ) (ms : List (List ℕ)) → is_directory_line line ≡ false
    → without_directory (line ∷ ms) ≡ line ∷ without_directory ms
line_stays line ms e = ap (λ b. cond b (without_directory ms) (line ∷ without_directory ms)) e

-- lines that are printed for plain reports stay, with what follows them
without_plain : (ss : List SaidValue) (ms : List (List ℕ)) → Plain ss
    → without_directory (flat_map lines_of ss ++ ms) ≡ flat_map lines_of ss ++ without_directory ms
without_plain [] ms h = refl
without_plain (s ∷ ss) ms h =
    ap without_directory (append_assoc (lines_of s) (flat_map lines_of ss) ms)
    ∙ h.0 (flat_map lines_of ss ++ ms) ∙ ap (λ k. lines_of s ++ k) (without_plain ss ms h.1)
    ∙ sym (append_assoc (lines_of s) (flat_map lines_of ss) (without_directory ms))

-- what the directory refused is printed by its line alone, which goes
directory_gone : (r : Option DirectoryFault) (ms : List (List ℕ))
    → without_directory (flat_map lines_of (directory_told r) ++ ms) ≡ without_directory ms
directory_gone None ms = refl
directory_gone (Some why) ms = refl

-- the lines that are printed for an act that was done
abbrev lines_of_done : Done → List (List ℕ)
lines_of_done d = flat_map lines_of (done_told d)

-- without the directory's lines those of what was done are the lines of its acts
done_without : (ds : List Done) → PlainActs (acts_of ds)
    → without_directory (flat_map lines_of_done ds) ≡ lines_of_acts (acts_of ds)
done_without [] h = refl
done_without (d ∷ ds) h =
    let more = flat_map lines_of_done ds in
    ap (λ l. without_directory (l ++ more)) (flat_map-append lines_of d.act.tells (directory_told d.refused))
    ∙ ap without_directory
    (append_assoc (flat_map lines_of d.act.tells) (flat_map lines_of (directory_told d.refused)) more)
    ∙ without_plain d.act.tells (flat_map lines_of (directory_told d.refused) ++ more) h.0
    ∙ ap (λ l. flat_map lines_of d.act.tells ++ l) (directory_gone d.refused more ∙ done_without ds h.1)

-- the account of what is reported is the text of its lines
account_is_lines : (ss : List SaidValue) → account_of ss ≡ text_of_lines (flat_map lines_of ss)
account_is_lines [] = refl
account_is_lines (s ∷ ss) = ap (λ l. printed_of s ++ l) (account_is_lines ss)
    ∙ sym (flat_map-append line_bytes (lines_of s) (flat_map lines_of ss))

-- the account of what was done is the text of its lines
tells_are_lines : (ds : List Done) → account_of (tells_of ds) ≡ text_of_lines (flat_map lines_of_done ds)
tells_are_lines [] = refl
tells_are_lines (d ∷ ds) =
    flat_map-append printed_of (done_told d) (tells_of ds)
    ∙ ap (λ l. l ++ account_of (tells_of ds)) (account_is_lines (done_told d))
    ∙ ap (λ l. text_of_lines (lines_of_done d) ++ l) (tells_are_lines ds)
    ∙ sym (flat_map-append line_bytes (lines_of_done d) (flat_map lines_of_done ds))

-- the front of plain acts is plain
plain_front : (ss ts : List Act) → PlainActs (ss ++ ts) → PlainActs ss
plain_front [] ts h = tt
plain_front (s ∷ ss) ts h = (h.0, plain_front ss ts h.1)

-- two scripts of plain acts are plain in a row
plain_joined : (ss ts : List Act) → PlainActs ss → PlainActs ts → PlainActs (ss ++ ts)
plain_joined [] ts h k = k
plain_joined (s ∷ ss) ts h k = (h.0, plain_joined ss ts h.1 k)

-- two lists of plain reports are plain in a row
told_joined : (ss ts : List SaidValue) → Plain ss → Plain ts → Plain (ss ++ ts)
told_joined [] ts h k = k
told_joined (s ∷ ss) ts h k = (h.0, told_joined ss ts h.1 k)

-- ---- lines that are heard

-- the phase of a good board is a plain report
good_is_plain : (g : Bool) (b : BoardFields) → Plain (if g then phase_said (phase_of b) ∷ [] else [])
good_is_plain true b = (λ ms. refl, tt)
good_is_plain false b = tt

-- the phase that is reported after a line is plain
phase_is_plain : (r : ReadingValue) → Plain (phase_told r)
phase_is_plain (numbered_line m) = tt
phase_is_plain (board_line b) = good_is_plain (good b) b
phase_is_plain (text_line text) = tt
phase_is_plain (malformed_line number k f) = tt

-- a decision that is confirmed is a plain report
confirmed_is_plain : (o : Option Ask) → Plain (confirmed_told o)
confirmed_is_plain None = tt
confirmed_is_plain (Some ask) = (λ ms. refl, tt)

-- the roll of a standing order is a plain report
rolled_is_plain : (rolled : Bool) → Plain (rolled_told rolled)
rolled_is_plain true = (λ ms. refl, tt)
rolled_is_plain false = tt

-- all that is reported of a line is plain
heard_is_plain : (log : List Entry) (l : ReadLine) → Plain (line_act log l).tells
heard_is_plain log l =
    let r = line_reading l in
    let h : Heard = heard (open_now log) log r in
    let decided : Plain (confirmed_told h.confirmed ++ rolled_told h.rolled) =
    told_joined (confirmed_told h.confirmed) (rolled_told h.rolled) (confirmed_is_plain h.confirmed)
    (rolled_is_plain h.rolled) in (
      λ ms. line_stays (heard_text l r) ms (kept_is_plain l.cut l.bytes r),
      told_joined (phase_told r) (confirmed_told h.confirmed ++ rolled_told h.rolled) (phase_is_plain r) decided,
    )

-- all that is reported of lines is plain
lines_are_plain : (log : List Entry) (ls : List ReadLine) → PlainActs (line_acts log ls)
lines_are_plain log [] = tt
lines_are_plain log (l ∷ ls) = (
  heard_is_plain log l,
  lines_are_plain
      (log ++ (heard (open_now log) log (line_reading l)).entries) ls,
)

-- all that is reported of a piece is plain
piece_is_plain : (t : Talk) (bytes : List ℕ) → PlainActs (piece_acts t bytes)
piece_is_plain t bytes = go (is_online t)
  where
    go : (b : Bool) → PlainActs (if b then line_acts t.log (gained t.stream bytes) else [])
    go true = lines_are_plain t.log (gained t.stream bytes)
    go false = tt

-- ---- the typed line

-- commands that were sent are plain reports
sent_is_plain : (send : List (List ℕ)) → Plain (map sent_said send)
sent_is_plain [] = tt
sent_is_plain (text ∷ send) = (λ ms. refl, sent_is_plain send)

-- the answer to a decision is reported plainly
decided_is_plain : (why : Option Refusal) (send : List (List ℕ))
    → Plain (answer_act (option_map refused_said why) send).tells
decided_is_plain None send = sent_is_plain send
decided_is_plain (Some why) send = (λ ms. refl, tt)

-- the answer to a plain command is reported plainly
plain_is_plain : (why : Option PlainRefusal) (send : List (List ℕ))
    → Plain (answer_act (option_map not_sent_said why) send).tells
plain_is_plain None send = sent_is_plain send
plain_is_plain (Some why) send = (λ ms. line_stays (plain_line why) ms (not_sent_is_plain why), tt)

-- the answer to a standing order is reported plainly
ordered_is_plain : (why : Option Refusal) → Plain (order_told ordered_said why ∷ [])
ordered_is_plain None = (λ ms. refl, tt)
ordered_is_plain (Some why) = (λ ms. refl, tt)

-- the answer to the end of a standing order is reported plainly
withdrawn_is_plain : (why : Option Refusal) → Plain (order_told withdrawn_said why ∷ [])
withdrawn_is_plain None = (λ ms. refl, tt)
withdrawn_is_plain (Some why) = (λ ms. refl, tt)

-- the answer to whatever is typed is reported plainly
typed_is_plain : (t : Talk) (v : TypedValue) → Plain (typed_act t v).tells
typed_is_plain t (typed_decision d) = decided_is_plain (answer_now t d) (step t (Click d)).send
typed_is_plain t (typed_plain p) = plain_is_plain (plain_refusal t p) (step t (PlainInput p)).send
typed_is_plain t typed_order = ordered_is_plain (order_refusal t.log)
typed_is_plain t typed_withdrawal = withdrawn_is_plain (withdraw_refusal t.log)
typed_is_plain t typed_none = (λ ms. refl, tt)

-- the acts of a line that may have been typed are plain
typed_are_plain : (t : Talk) (typed : Option (List ℕ)) → PlainActs (typed_acts t typed)
typed_are_plain t None = tt
typed_are_plain t (Some text) = (typed_is_plain t (typed_now t text), tt)

-- ---- the end

-- the end of a turn is reported plainly
end_is_plain : (e : Ending) → PlainActs (end_acts e)
end_is_plain Quiet = tt
end_is_plain (Lost waited) =
    let ask = option_map ask_of waited in
    ((λ ms. line_stays (lost_line ask) ms (lost_is_plain ask), tt), tt)

-- all lines of a turn but the directory's are those of its acts
pub turns_print_their_acts : TurnsPrintTheirActs
turns_print_their_acts t new typed left still a b e turned =
    let d = turned.did in
    let k = turned.ended.did in
    let ends : end_acts e ≡ acts_of k.done = k.acts ∙ ap (λ h. acts_of k.done ++ h) k.in_hand.0
    ∙ append-nil (acts_of k.done) in
    let both = d.done ++ k.done in
    let split : acts_of both ≡ acts_of d.done ++ end_acts e = map-append (λ (x : Done). x.act) d.done k.done
    ∙ ap (λ l. acts_of d.done ++ l) (sym ends) in
    let script = plain_joined (typed_acts t typed) (piece_acts (talk_after t typed) turned.intake.fed)
    (typed_are_plain t typed) (piece_is_plain (talk_after t typed) turned.intake.fed) in
    let front = plain_front (acts_of d.done) d.hand (subst PlainActs d.acts script) in
    let plain = subst PlainActs (sym split) (plain_joined (acts_of d.done) (end_acts e) front (end_is_plain e)) in (
      flat_map lines_of_done both,
      subst (Appends a.front b.front) (sym
          (flat_map-append printed_of (tells_of d.done) (tells_of k.done))
          ∙ ap account_of (sym (flat_map-append done_told d.done k.done)) ∙ tells_are_lines both)
          (Appends-trans a.front turned.mid.front b.front (account_of (tells_of d.done))
          (account_of (tells_of k.done)) d.told k.told),
      done_without both plain ∙ ap lines_of_acts split,
    )
