-- How many bytes of a script are read, and what is known of a script that is not run.
use Rattle.std.proofs.Common.{◌≡◌, ◌≤◌, ◌+◌, ◌++◌, ℕ, List, Option, None, Some, arith, inl, inr, length, take}
use Rattle.std.proofs.lemmas.List.{length-append, length-take}
use Rattle.std.specs.Io.KnownBytes.{Consumes}
use Rattle.std.proofs.KnownBytes.{Consumes-trans}
use Rattle.fibs_engine.specs.Reads.{LostAtMost}
use Rattle.fibs_replay.specs.Output.{too_long, unreadable, ReadWhole, ReadLines}
use Rattle.fibs_replay.specs.Scripts.{script_lines, FirstUnreadable}
use Rattle.fibs_replay.specs.declared.script.Script.TheVariants.{Unreadable}

-- a read that gave bytes
pub few_more : (most size : ℕ) (a b c : Option (List ℕ)) (read : List ℕ) (count : ℕ) (portion : List ℕ)
    → Consumes a b read → length read ≤ most → length portion ≡ size → Consumes b c (take count portion)
    → LostAtMost (most + size) a c
few_more most size a b c read count portion took few whole more =
    let long = length-append read (take count portion) in
    let part = length-take count portion in (
      read ++ take count portion,
      omega (arith, few, whole, long, part),
      Consumes-trans a b c read (take count portion)
          took more,
    )

-- a script that is not run

-- a script that is too long is unreadable as a whole
pub unread_long : (left still : Option (List ℕ)) → ReadWhole None left still → ReadLines (Unreadable 0) left still
unread_long left still read = (read.0, read.1, inr read.2, too_long read.2)

-- a script is unreadable at its first line that says nothing
pub unread_at : (script : List ℕ) (number : ℕ) (left still : Option (List ℕ)) → ReadWhole (Some script) left still
    → FirstUnreadable (script_lines script) number → ReadLines (Unreadable number) left still
unread_at script number left still read first = (script, read.0, inl read.1, unreadable number read.2 first)
