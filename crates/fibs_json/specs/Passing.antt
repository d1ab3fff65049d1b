-- The place that is kept while a stream is read. No public contract rests on this file.
use Rattle.std.specs.Prelude.{◌≡◌, ◌+◌, ℕ, List, [], ◌∷◌, ◌++◌, codes, length, Option, Some, None}
use Rattle.fibs_lines.specs.Lines.{ReadLine, lines_of, value_of}
use Rattle.fibs_lines.specs.declared.line.Line.{Line}
use Rattle.fibs_events.specs.Asking.{HasHeard}
use Rattle.fibs_events.specs.InOrder.{events_of}
use Rattle.fibs_events.specs.declared.asking.Asking.{Asking}
use Rattle.fibs_events.specs.declared.event.Event.{Event}
use Rattle.fibs_events.specs.declared.happened.Happened.{Happened}
use Rattle.fibs_json.specs.Asked.{any_below, asks_still, refusals}
use Rattle.fibs_json.specs.Counting.{one_more}
use Rattle.fibs_json.specs.Eventful.{HappenedBy, event_lines}
use Rattle.fibs_json.specs.Json.{Member}
use Rattle.fibs_json.specs.Lines.{LineObject, line_object}
use Rattle.fibs_json.specs.Places.{BeginsAt, WithMembers, in_64_bits, place_members, unfinished_members}
use Rattle.fibs_json.specs.declared.place.Place.{Place}

-- this place is that of the line of the stream that has not ended
pub record IsPlaceIn (p : Place) (s : List ℕ) : Type 0 where
  pub start : ℕ
  pub begins : BeginsAt s (length (lines_of s)) start
  pub lines : p.lines ≡ in_64_bits (length (lines_of s))
  pub bytes : p.bytes ≡ in_64_bits (length s)
  pub offset : p.offset ≡ in_64_bits start

-- its number and its offset, as members
abbrev pub members_of : Place → List Member
members_of p = place_members (one_more p.lines) p.offset

-- what is printed for a line that may be there, and a line end after it
abbrev pub AnyAt : (Place → ReadLine → List ℕ → Type 0) → Place → Option Line → List ℕ → Type 0
AnyAt Printed p None text = text ≡ []
AnyAt Printed p (Some line) text = (shown : List ℕ) × Printed p (value_of line) shown × (text ≡ shown ++ (10 ∷ []))

-- the object of a line with this place
abbrev pub ObjectAt : Place → ReadLine → List ℕ → Type 0
ObjectAt p line text = (object : List ℕ) × LineObject line object × WithMembers object (members_of p) text

-- the object of a line that has not ended, with this place, and a line end; nothing if no byte of it is known
abbrev pub ending_at : Place → List ℕ → List ℕ
ending_at p [] = []
ending_at p (b ∷ bytes) =
    line_object (codes "unfinished") (b ∷ bytes) (unfinished_members (length (b ∷ bytes)) (one_more p.lines) p.offset)
    ++ (10 ∷ [])

-- how many lines were counted after one that may be there
abbrev pub lines_after : ℕ → Option Line → ℕ
lines_after n None = n
lines_after n (Some line) = one_more n

-- these bytes of a stream were heard, and what was told of the line that has not ended
pub record IsAsked (a : Asking) (s : List ℕ) : Type 0 where
  pub heard : HasHeard a s
  pub told : a.is_told ≡ any_below (asks_still s) (length s + 1)

-- the object of what may have been told, with its line end
abbrev pub told_text : (Event → List ℕ) → Option Event → List ℕ
told_text object None = []
told_text object (Some event) = object event ++ (10 ∷ [])

-- whatever was heard before, these bytes are heard, and the text is what they tell of refused logins
abbrev pub Refused : Asking → Asking → List ℕ → List ℕ → List ℕ → Type 0
Refused a b bytes object text =
    (s : List ℕ) → IsAsked a s
    → IsAsked b (s ++ bytes) × (text ≡ refusals (s ++ bytes) object (length s) (length bytes))

-- the object of a line with this place, and those of its events
abbrev pub EventfulAt : Place → ReadLine → List ℕ → Type 0
EventfulAt p line text =
    (object : List ℕ) × (happened : Happened) × ObjectAt p line object × HappenedBy line happened
    × (text ≡ object ++ event_lines (one_more p.lines) (events_of happened))
