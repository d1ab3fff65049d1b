-- Lines to the server.
use Rattle.std.proofs.Common.{◌≡◌, ℕ, zero, suc, ◌<◌, Bool, true, false, ◌&&◌, List, [], ◌∷◌, ◌++◌, Option, Some, None, nat_eq, take, length, refl, ◌∙◌, ap, arith, if◌then◌else◌}
use Rattle.std.proofs.lemmas.Bool.{eqb-true}
use Rattle.std.proofs.lemmas.Option.{some_pair_parts}
use Rattle.fibs_game.specs.Wires.{next_line, put}
use Rattle.fibs_game.specs.Machine.{on_wire}
use Rattle.fibs_game.specs.Game.{Game}
use Rattle.fibs_game.specs.Lawful.{NoReturn}

module _ (G : Game) where
  -- a byte that is no CR is in the line
  no_return_step : (b : ℕ) (c : ℕ) (bytes : List ℕ) → nat_eq b 13 ≡ false
      → next_line (b ∷ c ∷ bytes) ≡ put b (next_line (c ∷ bytes))
  unfolding next_line
  no_return_step b c bytes h = rw h refl

  -- a text without CR, and CR LF, are the next whole line
  pub line_whole : (t more : List ℕ) → NoReturn t → next_line (on_wire t ++ more) ≡ Some (t, more)
  unfolding next_line
  line_whole [] more h = refl
  line_whole (b ∷ []) more h = no_return_step b 13 (10 ∷ more) h.0 ∙ ap (put b) (line_whole [] more tt)
  line_whole (b ∷ c ∷ t) more h = no_return_step b c (on_wire t ++ more) h.0 ∙ ap (put b) (line_whole (c ∷ t) more h.1)

  -- a part of it is not a whole line
  pub line_cut : (t : List ℕ) (k : ℕ) → NoReturn t → k < length (on_wire t) → next_line (take k (on_wire t)) ≡ None
  unfolding next_line
  line_cut [] zero h lt = refl
  line_cut [] (suc zero) h lt = refl
  line_cut [] (suc (suc k)) h lt = absurd (omega arith)
  line_cut (b ∷ t) zero h lt = refl
  line_cut (b ∷ t) (suc k) h lt = step (take k (on_wire t)) (line_cut t k h.1 (omega arith))
    where
      step : (l : List ℕ) → next_line l ≡ None → next_line (b ∷ l) ≡ None
      step [] e = refl
      step (c ∷ l) e = no_return_step b c l h.0 ∙ ap (put b) e

  -- no bytes are no line
  pub no_line : next_line [] ≡ None
  unfolding next_line
  no_line = refl

  -- the bytes from which a line was taken are that line and what is left
  pub line_is : (bytes t rest : List ℕ) → next_line bytes ≡ Some (t, rest) → bytes ≡ on_wire t ++ rest
  unfolding next_line
  line_is [] t rest h = absurd cc
  line_is (b ∷ []) t rest h = absurd cc
  line_is (b ∷ c ∷ bytes) t rest h =
      go (nat_eq b 13) (nat_eq c 10) refl refl h (λ u e. line_is (c ∷ bytes) u rest e)
    where
      behind : (o : Option (List ℕ × List ℕ)) → put b o ≡ Some (t, rest)
          → ((u : List ℕ) → o ≡ Some (u, rest) → c ∷ bytes ≡ on_wire u ++ rest) → b ∷ c ∷ bytes ≡ on_wire t ++ rest
      behind None e f = absurd cc
      behind (Some p) e f =
          let s = some_pair_parts (b ∷ p.0) t p.1 rest e in
          ap (λ l. b ∷ l) (f p.0 (ap (λ x. Some (p.0, x)) s.1)) ∙ ap (λ l. on_wire l ++ rest) s.0

      go : (x y : Bool) → nat_eq b 13 ≡ x → nat_eq c 10 ≡ y
          → (if x && y then Some ([], bytes) else put b (next_line (c ∷ bytes))) ≡ Some (t, rest)
          → ((u : List ℕ) → next_line (c ∷ bytes) ≡ Some (u, rest) → c ∷ bytes ≡ on_wire u ++ rest)
          → b ∷ c ∷ bytes ≡ on_wire t ++ rest
      go true true i k e f =
          let s = some_pair_parts [] t bytes rest e in
          rw (eqb-true b 13 i, eqb-true c 10 k, s.1, ← s.0) refl
      go true false i k e f = behind (next_line (c ∷ bytes)) e f
      go false y i k e f = behind (next_line (c ∷ bytes)) e f
