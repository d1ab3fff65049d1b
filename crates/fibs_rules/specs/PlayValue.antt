-- Plays as values.
use Rattle.std.specs.Prelude.{◌≤◌, List, All, length, take, map}
use Rattle.fibs_rules.specs.Hop.{Hop, IsStep, hop_of}
use Rattle.fibs_rules.specs.declared.play.Play.{Play}

-- at most four steps, as many as one roll of the dice can give
abbrev pub IsPlay : List Hop → Type 0
IsPlay steps = All IsStep steps × (length steps ≤ 4)

-- ---- the plays of the program as values

-- the steps in use
abbrev pub hops_of : Play → List Hop
hops_of play = map hop_of (take play.len play.steps)
