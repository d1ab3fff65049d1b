-- No connection's number is above the number of entries.
use Rattle.std.proofs.Common.{◌≡◌, ℕ, ◌+◌, ◌≤◌, List, [], ◌∷◌, ◌++◌, length, flat_map, arith, length-append}
use Rattle.fibs_game.specs.Log as L
use Rattle.fibs_game.specs.Log.{Entry}
use Rattle.fibs_game.specs.Words.{opened_by, connections}
use Rattle.fibs_game.specs.Headline.{AllAtMost}
use Rattle.fibs_game.specs.Game.{Game}

module _ (G : Game) where
  -- with a higher bound
  pub at_most_more : (n m : ℕ) (es : List (Entry G)) → n ≤ m → AllAtMost n es → AllAtMost m es
  at_most_more n m [] le h = tt
  at_most_more n m (e ∷ es) le h = let first = h.0 in (omega (arith, le, first), at_most_more n m es le h.1)

  -- in two parts
  pub at_most_both : (n : ℕ) (xs ys : List (Entry G)) → AllAtMost n xs → AllAtMost n ys → AllAtMost n (xs ++ ys)
  at_most_both n [] ys h k = k
  at_most_both n (e ∷ xs) ys h k = (h.0, at_most_both n xs ys h.1 k)

  -- at most as many connections were opened as there are entries
  pub few_connections : (log : List (Entry G)) → connections log ≤ length log
  few_connections [] = omega arith
  few_connections (e ∷ es) =
      let rest = few_connections es in
      let one = opens_one e in
      let all : connections (e ∷ es) ≡ length (opened_by e) + connections es =
      length-append (opened_by e) (flat_map opened_by es) in
      omega (arith, rest, one, all)
    where
      opens_one : (e : Entry G) → length (opened_by e) ≤ 1
      opens_one (L.Opened c) = omega arith
      opens_one e = omega arith
