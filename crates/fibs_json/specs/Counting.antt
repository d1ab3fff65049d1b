-- What the summary of `fibs show --events` counts.
use Rattle.std.specs.Prelude.{◌+◌, ◌-◌, ◌^◌, ℕ, Bool, true, false, nat_eq, min, List, [], ◌∷◌, ◌++◌, codes, fold, if◌then◌else◌, Option, Some, None}
use Rattle.std.specs.List.{starts_with}
use Rattle.fibs_messages.specs.Line.{ReadingValue, numbered_line, board_line, text_line, malformed_line}
use Rattle.fibs_events.specs.declared.event.Event.{Event}
use Rattle.fibs_events.specs.declared.event.Event.TheVariants as E
use Rattle.fibs_json.specs.Json.{Member, member, more_members, whole}
use Rattle.fibs_json.specs.declared.eventful.Counts.{Counts}

-- one more, up to the greatest number of 64 bits
abbrev pub one_more : ℕ → ℕ
one_more n = min (n + 1) (2 ^ 64 - 1)

-- nothing was read
abbrev pub nothing_counted : Counts
nothing_counted = record {
  lines = 0;
  boards = 0;
  messages = 0;
  texts = 0;
  sent = 0;
  cut = 0;
  malformed = 0;
  events = 0;
  games = 0;
  matches = 0;
}

-- a text was read: a line of a log that was sent begins with `>> `
abbrev pub with_text : Counts → List ℕ → Counts
with_text c text =
    if starts_with nat_eq text (codes ">> ") then record c { sent = one_more c.sent }
    else record c { texts = one_more c.texts }

-- a line was read that reads so
abbrev pub with_reading : Counts → ReadingValue → Counts
with_reading c (board_line b) = record c { boards = one_more c.boards }
with_reading c (numbered_line m) = record c { messages = one_more c.messages }
with_reading c (malformed_line n k f) = record c { malformed = one_more c.malformed }
with_reading c (text_line text) = with_text c text

-- a line was read, which was cut or reads so
abbrev pub with_line : Counts → Bool → ReadingValue → Counts
with_line c true reading = record c { lines = one_more c.lines; cut = one_more c.cut }
with_line c false reading = with_reading (record c { lines = one_more c.lines }) reading

-- something has happened
abbrev pub with_event : Counts → Event → Counts
with_event c (E.GameOver winner points worth) = record c { events = one_more c.events; games = one_more c.games }
with_event c (E.MatchOver winner length score) = record c { events = one_more c.events; matches = one_more c.matches }
with_event c event = record c { events = one_more c.events }

-- the same if something has
abbrev pub with_any : Counts → Option Event → Counts
with_any c None = c
with_any c (Some event) = with_event c event

-- these things have happened
abbrev pub with_events : Counts → List (Option Event) → Counts
with_events c events = fold with_any c events

-- the members of a summary: how many lines there were, and of them boards, messages and texts
abbrev pub line_members : Counts → List Member
line_members c =
    member (codes "lines") (whole c.lines) ∷ member (codes "boards") (whole c.boards)
    ∷ member (codes "messages") (whole c.messages) ∷ member (codes "texts") (whole c.texts) ∷ []

-- how many were sent, cut and malformed
abbrev pub other_members : Counts → List Member
other_members c =
    member (codes "sent") (whole c.sent) ∷ member (codes "cut") (whole c.cut)
    ∷ member (codes "malformed") (whole c.malformed) ∷ []

-- how many events there were, and games and matches that were over
abbrev pub event_members : Counts → List Member
event_members c =
    member (codes "events") (whole c.events) ∷ member (codes "games") (whole c.games)
    ∷ member (codes "matches") (whole c.matches) ∷ []

-- the summary, with its line end
abbrev pub summary_object : Counts → List ℕ
summary_object c =
    codes "{\"kind\":\"summary\"" ++ (more_members (line_members c) ++ (more_members (other_members c)
    ++ (more_members (event_members c) ++ (125 ∷ 10 ∷ []))))
