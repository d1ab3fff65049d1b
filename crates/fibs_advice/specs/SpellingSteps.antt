-- Steps that are read one after the other. No public contract rests on this file.
use Rattle.std.specs.Prelude.{◌+◌, ◌++◌, ◌∷◌, cond, List, [], length, nat_le, Option, Some, None}
use Rattle.fibs_rules.specs.Hop.{Hop}

-- some steps after others, with which they are at most four
unfoldable pub onto : List Hop → Option (List Hop) → Option (List Hop)
onto played None = None
onto played (Some []) = Some played
onto played (Some (step ∷ steps)) =
    cond (nat_le (length played + length (step ∷ steps)) 4) (Some (played ++ (step ∷ steps))) None
