-- What `fibs show --events` reads and writes.
use Rattle.std.specs.Prelude.{◌≡◌, ◌+◌, ◌-◌, length, ℕ, Bool, true, false, List, [], ◌∷◌, ◌++◌, Option, Some, None}
use Rattle.std.specs.List.{flat_map}
use Rattle.fibs_engine.specs.Streams as streams
use Rattle.fibs_engine.specs.Streams.{Printing}
use Rattle.fibs_lines.specs.Lines.{ReadLine, lines_of}
use Rattle.fibs_fields.specs.Board.{BoardFields}
use Rattle.fibs_messages.specs.Line.{IsReading, ReadingValue}
use Rattle.fibs_events.specs.Happenings.{nothing}
use Rattle.fibs_events.specs.InOrder.{events_of}
use Rattle.fibs_events.specs.Known.{IsHeardBy}
use Rattle.fibs_events.specs.declared.event.Event.{Event}
use Rattle.fibs_events.specs.declared.event.Event.TheVariants as E
use Rattle.fibs_events.specs.declared.happened.Happened.{Happened}
use Rattle.fibs_json.specs.Asked.{refusals}
use Rattle.fibs_json.specs.Counting.{summary_object}
use Rattle.fibs_json.specs.Events.{event_object}
use Rattle.fibs_json.specs.Places.{BeginsAt, EachPlaced, Ending, PlacedObject, in_64_bits}
use Rattle.fibs_json.specs.declared.eventful.Counts.{Counts}

-- the object of an event, if there is one, after the line end of what is before it
abbrev pub event_line : ℕ → Option Event → List ℕ
event_line number None = []
event_line number (Some event) = 10 ∷ event_object number event

-- the objects of events of the line with this number, each on a line of its own
abbrev pub event_lines : ℕ → List (Option Event) → List ℕ
event_lines number events = flat_map (event_line number) events

-- what has happened by a line that was cut, or reads so, if this board was known before it: nothing by one that was cut
abbrev pub HappenedAs : Bool → Option BoardFields → ReadingValue → Happened → Type 0
HappenedAs true known reading happened = happened ≡ nothing
HappenedAs false known reading happened = IsHeardBy known reading happened

-- what has happened by a line as the reader of lines lends it, if some board was known before it
abbrev pub HappenedBy : ReadLine → Happened → Type 0
HappenedBy line happened =
    (known : Option BoardFields) × (reading : ReadingValue) × IsReading line.bytes reading
    × HappenedAs line.cut known reading happened

-- the object of a refused login that is told by the line before which so many lines have ended
abbrev pub refusal_object : ℕ → List ℕ
refusal_object before = event_object (in_64_bits (before + 1)) E.LoginRefused

-- what is printed for a line of this stream before which so many lines have ended: the objects of refused logins that
-- its bytes tell, since its front tells them; then its object, as `fibs show --json` prints it, and those of its events
abbrev pub EventfulLine : List ℕ → ℕ → ReadLine → List ℕ → Type 0
EventfulLine s before line text =
    (start end : ℕ) × (object : List ℕ) × (happened : Happened)
    × BeginsAt s before start × BeginsAt s (before + 1) end
    × PlacedObject s before line object × HappenedBy line happened
    × (text ≡ refusals s (refusal_object before) start (end - start)
    ++ (object ++ event_lines (in_64_bits (before + 1)) (events_of happened)))

-- what is printed for a stream: for its lines, and then the objects of refused logins that the bytes after its last
-- line end tell
abbrev pub EventfulText : Printing
EventfulText s text =
    (shown : List ℕ) × (start : ℕ) × EachPlaced EventfulLine s shown × BeginsAt s (length (lines_of s)) start
    × (text ≡ shown ++ refusals s (refusal_object (length (lines_of s))) start (length s - start))

-- what is printed at the end of a stream: the object of a line that has not ended, and a summary
abbrev pub EventfulEnd : Printing
EventfulEnd s text =
    (ending : List ℕ) × (counts : Counts) × Ending s ending
    × (counts.lines ≡ in_64_bits (length (lines_of s))) × (text ≡ ending ++ summary_object counts)

-- What a reader has left, and what a writer holds, is Some list if the prover knows its bytes, and else None: then the
-- next four definitions say nothing. They are those of fibs_engine, of these texts and this end.

-- a reader was read to its end, and a writer gained all that is printed for its bytes
abbrev pub WroteAll : Option (List ℕ) → Option (List ℕ) → Option (List ℕ) → Option (List ℕ) → Type 0
WroteAll left still_left held now = streams.WroteAll EventfulText EventfulEnd left still_left held now

-- a writer gained just what is printed for all that was read, without its end
abbrev pub WroteRead : Option (List ℕ) → Option (List ℕ) → Option (List ℕ) → Option (List ℕ) → Type 0
WroteRead left still_left held now = streams.WroteRead EventfulText left still_left held now

-- a writer gained just what is printed for some front of what was read, without its end
abbrev pub WroteLines : Option (List ℕ) → Option (List ℕ) → Option (List ℕ) → Option (List ℕ) → Type 0
WroteLines left still_left held now = streams.WroteLines EventfulText left still_left held now

-- a writer gained a front of what is printed for what was read, and at least one byte of it is missing
abbrev pub WroteFront : Option (List ℕ) → Option (List ℕ) → Option (List ℕ) → Option (List ℕ) → Type 0
WroteFront left still_left held now = streams.WroteFront EventfulText EventfulEnd left still_left held now
