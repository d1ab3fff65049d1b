-- The test of boards is exact.
use Rattle.std.proofs.Common.{◌≡◌, ◌&&◌, true, List, [], ◌∷◌, refl, sym, true≢false}
use Rattle.std.specs.Prelude.{ℤ, ◌↔◌}
use Rattle.std.proofs.lemmas.Bool.{and_parts, and_from}
use Rattle.fibs_fields.specs.declared.values.Values.{Values}
use Rattle.fibs_fields.specs.Decimal.{allows}
use Rattle.fibs_fields.specs.Name.{is_name}
use Rattle.fibs_fields.specs.Board.{BoardFields, IsBoard, Fit, field_values, fit, is_board}

-- numbers that pass the test fit
fit_tells : (vs : List Values) (zs : List ℤ) → fit vs zs ≡ true → Fit vs zs
fit_tells [] [] h = tt
fit_tells [] (z ∷ zs) h = absurd (true≢false (sym h))
fit_tells (v ∷ vs) [] h = absurd (true≢false (sym h))
fit_tells (v ∷ vs) (z ∷ zs) h = let p = and_parts (allows v z) (fit vs zs) h in (p.0, fit_tells vs zs p.1)

-- of numbers that fit the test says yes
fit_from : (vs : List Values) (zs : List ℤ) → Fit vs zs → fit vs zs ≡ true
fit_from [] [] h = refl
fit_from [] (z ∷ zs) h = absurd h
fit_from (v ∷ vs) [] h = absurd h
fit_from (v ∷ vs) (z ∷ zs) h = and_from (allows v z) (fit vs zs) h.0 (fit_from vs zs h.1)

-- fields that pass the test are a board
board_tells : (b : BoardFields) → is_board b ≡ true → IsBoard b
unfolding is_board
board_tells b h =
    let p = and_parts (is_name b.player) (is_name b.opponent && fit field_values b.numbers) h in
    let q = and_parts (is_name b.opponent) (fit field_values b.numbers) p.1 in
    (p.0, q.0, fit_tells field_values b.numbers q.1)

-- of a board the test says yes
board_from : (b : BoardFields) → IsBoard b → is_board b ≡ true
unfolding is_board
board_from b h = and_from (is_name b.player) (is_name b.opponent && fit field_values b.numbers) h.0
    (and_from (is_name b.opponent) (fit field_values b.numbers) h.1 (fit_from field_values b.numbers h.2))

-- the test says yes of boards, and of nothing else
pub is_board_exact : (b : BoardFields) → (is_board b ≡ true) ↔ IsBoard b
is_board_exact b = (board_tells b, board_from b)
