-- The test `same_game` is exact, and an equivalence.
use Rattle.std.proofs.Common.{◌≡◌, true, Bool, ℕ, List, [], ◌∷◌, refl, sym, ap, ◌∙◌, subst, inl, inr, true≢false}
use Rattle.std.specs.Prelude.{ℤ, ◌↔◌, IsTrue}
use Rattle.std.specs.Ordering.{int_eq}
use Rattle.std.specs.Str.{bytes_eq}
use Rattle.std.proofs.lemmas.Bool.{and_parts, and_from, cases_Bool}
use Rattle.std.proofs.lemmas.Bool.Decides.{Decides-int_eq, same_from_decides}
use Rattle.std.proofs.lemmas.Slice.Eq.{bytes_eq-Decides}
use Rattle.fibs_fields.specs.Board.{BoardFields}
use Rattle.fibs_position.specs.GamePart.{GamePart, game_part, ints_eq, same_part, same_game}
use Rattle.fibs_position.specs.Laws.{SameGameIsExact, SameGameIsALikeness}

-- numbers that pass the test are the same
ints_tell : (xs ys : List ℤ) → ints_eq xs ys ≡ true → xs ≡ ys
ints_tell [] [] h = refl
ints_tell [] (y ∷ ys) h = absurd (true≢false (sym h))
ints_tell (x ∷ xs) [] h = absurd (true≢false (sym h))
ints_tell (x ∷ xs) (y ∷ ys) h =
    let p = and_parts (int_eq x y) (ints_eq xs ys) h in
    let e : x ≡ y = (Decides-int_eq x y).0 p.0 in
    let r : xs ≡ ys = ints_tell xs ys p.1 in
    cc

-- numbers pass the test against themselves
ints_same : (xs : List ℤ) → ints_eq xs xs ≡ true
ints_same [] = refl
ints_same (x ∷ xs) = and_from (int_eq x x) (ints_eq xs xs) ((Decides-int_eq x x).1 refl) (ints_same xs)

-- game parts that pass the test are the same
part_tells : (p q : GamePart) → same_part p q ≡ true → p ≡ q
part_tells p q h =
    let both = and_parts (bytes_eq p.opponent q.opponent) (ints_eq p.numbers q.numbers) h in
    let names : p.opponent ≡ q.opponent = (bytes_eq-Decides p.opponent q.opponent).0 both.0 in
    let numbers : p.numbers ≡ q.numbers = ints_tell p.numbers q.numbers both.1 in
    let first : List ℕ → GamePart = λ o. record { opponent = o; numbers = p.numbers } in
    let second : List ℤ → GamePart = λ n. record { opponent = q.opponent; numbers = n } in
    ap first names ∙ ap second numbers

-- a game part passes the test against itself
part_same : (p : GamePart) → same_part p p ≡ true
part_same p =
    let name = (bytes_eq-Decides p.opponent p.opponent).1 refl in
    and_from (bytes_eq p.opponent p.opponent) (ints_eq p.numbers p.numbers) name (ints_same p.numbers)

-- boards that pass the test have one game part
game_tells : (a b : BoardFields) → same_game a b ≡ true → game_part a ≡ game_part b
unfolding same_game
game_tells a b h = part_tells (game_part a) (game_part b) h

-- boards with one game part pass the test
game_from : (a b : BoardFields) → game_part a ≡ game_part b → same_game a b ≡ true
unfolding same_game
game_from a b e = subst (λ p. same_part (game_part a) p ≡ true) e (part_same (game_part a))

-- the test decides whether two boards have the same game part
pub same_as_test : (t : Bool) (a b : BoardFields) → (IsTrue t ↔ (game_part a ≡ game_part b)) → t ≡ same_game a b
same_as_test t a b h = same_from_decides t (same_game a b) h (game_tells a b, game_from a b)

-- the test fails exactly for boards that differ
pub same_game_is_exact : SameGameIsExact
same_game_is_exact a b = (
  λ f e. true≢false (sym (game_from a b e) ∙ f),
  λ d. elim (cases_Bool (same_game a b)) [ inl t ↦ absurd (d (game_tells a b t)) | inr f ↦ f ],
)

-- and is an equivalence
pub same_game_is_a_likeness : SameGameIsALikeness
same_game_is_a_likeness = record {
  itself = λ a. game_from a a refl;
  back = λ a b h. game_from b a (sym (game_tells a b h));
  on = λ a b c h k. game_from a c (game_tells a b h ∙ game_tells b c k);
}
