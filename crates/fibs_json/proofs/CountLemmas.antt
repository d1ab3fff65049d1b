-- Each line counts as one, and an event counts as none.
use Rattle.std.proofs.Common.{◌≡◌, ◌+◌, ◌∙◌, ap, sym, refl, append-nil, length, length-append, ◌∷◌, [], ◌++◌, ℕ, Bool, true, false, nat_eq, codes, take, List, Option, None, Some, if◌then◌else◌}
use Rattle.std.specs.List.{starts_with}
use Rattle.fibs_lines.specs.Feeding.{Feeds, lent_lines}
use Rattle.fibs_lines.specs.Lines.{ReadLine, lines_of, value_of}
use Rattle.fibs_lines.specs.declared.line.Line.{Line}
use Rattle.fibs_lines.specs.declared.lines.Fed.{Fed}
use Rattle.fibs_lines.proofs.StreamLawProofs.{empty_stream_has_no_line}
use Rattle.fibs_messages.specs.Line.{ReadingValue, board_line, malformed_line, numbered_line, text_line}
use Rattle.fibs_events.specs.declared.event.Event.{Event}
use Rattle.fibs_events.specs.declared.event.Event.TheVariants as E
use Rattle.fibs_json.specs.Counting.{one_more, with_any, with_event, with_events, with_line, with_reading}
use Rattle.fibs_json.specs.Passing.{lines_after}
use Rattle.fibs_json.specs.Places.{in_64_bits}
use Rattle.fibs_json.specs.declared.eventful.Counts.{Counts}
use Rattle.fibs_json.proofs.PlaceLemmas.{counts_more}

-- a text counts as no line
text_lines : (c : Counts) (t : Bool)
    → (if t then record c { sent = one_more c.sent } else record c { texts = one_more c.texts }).lines ≡ c.lines
text_lines c true = refl
text_lines c false = refl

-- what a line reads as neither
reading_lines : (c : Counts) (reading : ReadingValue) → (with_reading c reading).lines ≡ c.lines
reading_lines c (board_line b) = refl
reading_lines c (numbered_line m) = refl
reading_lines c (malformed_line n k f) = refl
reading_lines c (text_line text) = text_lines c (starts_with nat_eq text (codes ">> "))

-- a line counts as one
line_counts : (c : Counts) (cut : Bool) (reading : ReadingValue) → (with_line c cut reading).lines ≡ one_more c.lines
line_counts c true reading = refl
line_counts c false reading = reading_lines (record c { lines = one_more c.lines }) reading

-- an event counts as no line
one_lines : (c : Counts) (event : Event) → (with_event c event).lines ≡ c.lines
one_lines c (E.LoggedIn name) = refl
one_lines c E.LoginRefused = refl
one_lines c (E.Invited name length) = refl
one_lines c (E.InvitedToResume name) = refl
one_lines c (E.Joined name length) = refl
one_lines c (E.Resumed name) = refl
one_lines c (E.GameBegun name) = refl
one_lines c (E.Rolled who dice) = refl
one_lines c (E.Played who play) = refl
one_lines c (E.CannotMove who) = refl
one_lines c (E.Doubled who) = refl
one_lines c (E.Accepted who offer) = refl
one_lines c (E.Rejected who) = refl
one_lines c (E.OfferedToResign who points worth) = refl
one_lines c (E.Declined who) = refl
one_lines c (E.GameOver winner points worth) = refl
one_lines c E.NextGame = refl
one_lines c (E.MatchOver winner length score) = refl
one_lines c (E.Left who) = refl
one_lines c E.NotPlaying = refl
one_lines c (E.RatingChanged who rating experience) = refl
one_lines c (E.NothingSaved name) = refl
one_lines c (E.Refused text) = refl

-- and if there is none
pub any_lines : (c : Counts) (event : Option Event) → (with_any c event).lines ≡ c.lines
any_lines c None = refl
any_lines c (Some event) = one_lines c event

-- so do events
events_lines : (events : List (Option Event)) (c : Counts) → (with_events c events).lines ≡ c.lines
events_lines [] c = refl
events_lines (e ∷ events) c = events_lines events (with_any c e) ∙ any_lines c e

-- a line and its events count as one line
pub happened_counts : (c now : Counts) (cut : Bool) (reading : ReadingValue) (events : List (Option Event))
    → now ≡ with_events (with_line c cut reading) events → now.lines ≡ one_more c.lines
happened_counts c now cut reading events is =
    ap (λ (d : Counts). d.lines) is ∙ events_lines events (with_line c cut reading) ∙ line_counts c cut reading

-- of the empty stream none is counted
pub no_lines : (n : ℕ) → n ≡ 0 → n ≡ in_64_bits (length (lines_of []))
no_lines n is = is ∙ ap (λ (ls : List ReadLine). in_64_bits (length ls)) (sym empty_stream_has_no_line.0)

-- the lines are counted if the line is that a piece ends, if it ends one
pub lines_counted : (n m : ℕ) (s piece : List ℕ) (fed : Fed) (line : Option Line) → fed.line ≡ line
    → m ≡ lines_after n line → n ≡ in_64_bits (length (lines_of s)) → Feeds s piece fed
    → m ≡ in_64_bits (length (lines_of (s ++ take fed.used piece)))
lines_counted n m s piece fed None is more before feeds =
    more ∙ before
    ∙ ap (λ (ls : List ReadLine). in_64_bits (length ls))
    (sym (feeds.gains ∙ ap (λ l. lines_of s ++ lent_lines l) is ∙ append-nil (lines_of s)))
lines_counted n m s piece fed (Some line) is more before feeds =
    more ∙ ap one_more before ∙ counts_more (length (lines_of s)) 1
    ∙ ap in_64_bits (sym (ap (λ (ls : List ReadLine). length ls)
    (feeds.gains ∙ ap (λ l. lines_of s ++ lent_lines l) is)
    ∙ length-append (lines_of s) (value_of line ∷ [])))
