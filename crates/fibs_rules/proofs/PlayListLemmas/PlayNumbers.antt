-- Plays of as many steps compare as their numbers do.
use Rattle.std.proofs.Common.{◌≡◌, ℕ, zero, suc, ◌+◌, ◌*◌, ◌<◌, List, [], ◌∷◌, length, map, take, drop, true, refl, sym, ap, ◌∙◌, arith, get_or}
use Rattle.std.specs.Int.{w64, from_be_bytes}
use Rattle.std.specs.List.{list_all}
use Rattle.std.specs.declared.cmp.Ordering.{Ordering}
use Rattle.std.specs.declared.cmp.Ordering.TheVariants.{Less, Equal, Greater}
use Rattle.std.specs.Ordering.{ordering_then, nat_cmp}
use Rattle.std.proofs.lemmas.Bool.Decides.{nat_tests}
use Rattle.std.proofs.lemmas.Cmp.{tied_itself}
use Rattle.fibs_rules.specs.Hop.{hop_of, is_blank}
use Rattle.fibs_rules.specs.PlayValue.{hops_of}
use Rattle.fibs_rules.specs.PlayNumber.{number_from}
use Rattle.fibs_rules.specs.LegalPlays.{hop_cmp, play_cmp}
use Rattle.fibs_rules.specs.declared.step.Step.{Step}
use Rattle.fibs_rules.specs.declared.play.Play.{Play}
use Rattle.fibs_rules.proofs.PlayListLemmas.PlayOrder.{play_total}
use Rattle.fibs_rules.proofs.LawLemmas.Equality.{same_blanks}

-- what decides first
then_assoc : (a b c : Ordering) → ordering_then (ordering_then a b) c ≡ ordering_then a (ordering_then b c)
then_assoc Less b c = refl
then_assoc Equal b c = refl
then_assoc Greater b c = refl

-- nothing more decides nothing
then_equal : (a : Ordering) → ordering_then a Equal ≡ a
then_equal Less = refl
then_equal Equal = refl
then_equal Greater = refl

-- numbers with one byte more
byte_more : (x y u v : ℕ) → u < 256 → v < 256
    → nat_cmp (x * 256 + u) (y * 256 + v) ≡ ordering_then (nat_cmp x y) (nat_cmp u v)
byte_more x y u v l r = grind (arith, nat_tests)

-- numbers with the places of one step more
step_more : (x y : ℕ) (s t : Step)
    → nat_cmp ((x * 256 + s.source) * 256 + s.target) ((y * 256 + t.source) * 256 + t.target)
    ≡ ordering_then (nat_cmp x y) (hop_cmp (hop_of s) (hop_of t))
step_more x y s t =
    let a = s.valid in let b = t.valid in
    byte_more (x * 256 + s.source) (y * 256 + t.source) s.target t.target (omega (arith, a.2)) (omega (arith, b.2))
    ∙ ap (λ o. ordering_then o (nat_cmp s.target t.target))
    (byte_more x y s.source t.source (omega (arith, a.1)) (omega (arith, b.1)))
    ∙ then_assoc (nat_cmp x y) (nat_cmp s.source t.source) (nat_cmp s.target t.target)

-- the numbers of as many steps compare as the steps
number_cmp : (x y : ℕ) (xs ys : List Step) → length xs ≡ length ys
    → nat_cmp (number_from x xs) (number_from y ys)
    ≡ ordering_then (nat_cmp x y) (play_cmp (map hop_of xs) (map hop_of ys))
number_cmp x y [] [] e = sym (then_equal (nat_cmp x y))
number_cmp x y [] (t ∷ ys) e = absurd (omega arith)
number_cmp x y (s ∷ xs) [] e = absurd (omega arith)
number_cmp x y (s ∷ xs) (t ∷ ys) e =
    number_cmp ((x * 256 + s.source) * 256 + s.target) ((y * 256 + t.source) * 256 + t.target) xs ys (omega arith)
    ∙ ap (λ o. ordering_then o (play_cmp (map hop_of xs) (map hop_of ys))) (step_more x y s t)
    ∙ then_assoc (nat_cmp x y) (hop_cmp (hop_of s) (hop_of t)) (play_cmp (map hop_of xs) (map hop_of ys))

-- blank steps after as many do not decide
padded : (xs ys : List Step) (n : ℕ) → length xs ≡ length ys → list_all is_blank (drop n xs) ≡ true
    → list_all is_blank (drop n ys) ≡ true
    → play_cmp (map hop_of (take n xs)) (map hop_of (take n ys)) ≡ play_cmp (map hop_of xs) (map hop_of ys)
padded xs ys zero e h k =
    sym (ap (λ zs. play_cmp (map hop_of xs) (map hop_of zs)) (sym (same_blanks xs ys h k e))
    ∙ tied_itself play_total (map hop_of xs))
padded [] [] (suc n) e h k = refl
padded [] (t ∷ ys) (suc n) e h k = absurd (omega arith)
padded (s ∷ xs) [] (suc n) e h k = absurd (omega arith)
padded (s ∷ xs) (t ∷ ys) (suc n) e h k =
    ap (ordering_then (hop_cmp (hop_of s) (hop_of t))) (padded xs ys n (omega arith) h k)

-- so plays of as many steps compare as their numbers
pub plays_cmp : (a b : Play) → a.len ≡ b.len
    → nat_cmp (number_from 0 a.steps) (number_from 0 b.steps) ≡ play_cmp (hops_of a) (hops_of b)
plays_cmp a b e =
    let f = a.full in let g = b.full in
    number_cmp 0 0 a.steps b.steps (omega (arith, f, g))
    ∙ sym (padded a.steps b.steps a.len (omega (arith, f, g)) a.rest (rw e b.rest))
    ∙ ap (λ n. play_cmp (hops_of a) (map hop_of (take n b.steps))) e

-- the number of four steps by its bytes
four : (a b c d : Step)
    → from_be_bytes w64 (a.source ∷ a.target ∷ b.source ∷ b.target ∷ c.source ∷ c.target ∷ d.source ∷ d.target ∷ [])
    ≡ number_from 0 (a ∷ b ∷ c ∷ d ∷ [])
four a b c d = omega arith

-- of a list of four
pub number_is : (xs : List Step) (d : Step) → length xs ≡ 4
    → from_be_bytes w64 ((get_or xs 0 d).source ∷ (get_or xs 0 d).target ∷ (get_or xs 1 d).source
    ∷ (get_or xs 1 d).target ∷ (get_or xs 2 d).source ∷ (get_or xs 2 d).target ∷ (get_or xs 3 d).source
    ∷ (get_or xs 3 d).target ∷ []) ≡ number_from 0 xs
number_is (a ∷ b ∷ c ∷ e ∷ []) d long = four a b c e
number_is [] d long = absurd (omega arith)
number_is (a ∷ []) d long = absurd (omega arith)
number_is (a ∷ b ∷ []) d long = absurd (omega arith)
number_is (a ∷ b ∷ c ∷ []) d long = absurd (omega arith)
number_is (a ∷ b ∷ c ∷ e ∷ f ∷ xs) d long = absurd (omega arith)
