use Rattle.std.proofs.Common.{◌≡◌, ◌≤◌, ◌*◌, ℕ, List, length}
use Rattle.std.specs.Io.KnownBytes.{Consumes}
use Rattle.fibs_session.specs.History.Machine.{Talk}
use Rattle.fibs_session.specs.Calls.Standing.{StandsAfter}
use Rattle.fibs_connect.specs.Turns.Script.{outside}
use Rattle.fibs_connect.proofs.TurnLemmas.Turns.{Gone}
use Rattle.fibs_connect.proofs.turns.listen.Given as goal

-- all that was read is fed, and what its lines call for is done; each read gave no more than there was room for
abbrev pub invariant-loop-made : goal.invariant-loop-made
invariant-loop-made g l = (read : List ℕ)
    × Consumes (g.S.Read.remaining l.initial.stream) (g.S.Read.remaining l.stream) read
    × ((t : Talk) → StandsAfter l.initial.client t → Gone g.F.Front.tells t l.client read
    (outside (g.S.Write.contents l.initial.stream) l.initial.front l.initial.directory)
    (outside (g.S.Write.contents l.stream) l.front l.directory))
    × (length read ≤ l.made * 1024) × (length l.portion ≡ 1024)
