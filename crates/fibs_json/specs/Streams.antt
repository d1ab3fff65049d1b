-- What `fibs show --json` reads and writes. What a reader has left, and what a writer holds, is Some list if the prover
-- knows its bytes, and else None: then these definitions say nothing. They are those of fibs_engine, of these objects.
use Rattle.std.specs.Prelude.{ℕ, List, Option}
use Rattle.fibs_engine.specs.Streams as streams
use Rattle.fibs_json.specs.Places.{EachPlaced, Ending, PlacedObject}

-- a reader was read to its end, and a writer gained all that is printed for its bytes
abbrev pub WroteAll : Option (List ℕ) → Option (List ℕ) → Option (List ℕ) → Option (List ℕ) → Type 0
WroteAll left still_left held now = streams.WroteAll (EachPlaced PlacedObject) Ending left still_left held now

-- a writer gained just what is printed for the lines of all that was read
abbrev pub WroteRead : Option (List ℕ) → Option (List ℕ) → Option (List ℕ) → Option (List ℕ) → Type 0
WroteRead left still_left held now = streams.WroteRead (EachPlaced PlacedObject) left still_left held now

-- a writer gained just what is printed for the lines of some front of what was read
abbrev pub WroteLines : Option (List ℕ) → Option (List ℕ) → Option (List ℕ) → Option (List ℕ) → Type 0
WroteLines left still_left held now = streams.WroteLines (EachPlaced PlacedObject) left still_left held now

-- a writer gained a front of what is printed for what was read, and at least one byte of it is missing
abbrev pub WroteFront : Option (List ℕ) → Option (List ℕ) → Option (List ℕ) → Option (List ℕ) → Type 0
WroteFront left still_left held now = streams.WroteFront (EachPlaced PlacedObject) Ending left still_left held now
