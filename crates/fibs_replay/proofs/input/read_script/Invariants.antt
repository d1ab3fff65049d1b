use Rattle.std.proofs.Common.{◌≡◌, ◌≤◌, ◌+◌, ◌-◌, length, vec_len}
use Rattle.std.specs.Io.KnownBytes.{Consumes}
use Rattle.fibs_replay.specs.Scripts.{script_limit}
use Rattle.fibs_replay.proofs.input.read_script.Given as goal

-- what was read is kept
abbrev pub invariant-loop-reader : goal.invariant-loop-reader
invariant-loop-reader g l = Consumes (g.R.Read.remaining l.initial.reader) (g.R.Read.remaining l.reader) l.script.items
    × (length l.portion ≡ length l.initial.portion) × (vec_len l.script ≤ script_limit + length l.initial.portion)

abbrev pub decreases-loop-reader : goal.decreases-loop-reader
decreases-loop-reader g l = (script_limit + 1) - vec_len l.script
