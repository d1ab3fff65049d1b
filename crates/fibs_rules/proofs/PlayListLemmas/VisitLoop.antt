-- The loop that goes through the runs by given dice.
use Rattle.std.proofs.Common.{◌≡◌, ℕ, suc, ◌+◌, ◌-◌, ◌<◌, ◌≤◌, List, [], ◌∷◌, ◌++◌, length, take, drop, get_or, Option, Some, None, refl, sym, ap, ◌∙◌, arith, add-one, append-nil, length-append, length-drop}
use Rattle.std.specs.List.{fold}
use Rattle.std.proofs.lemmas.List.Sums.{fold-append}
use Rattle.fibs_rules.specs.Hop.{Hop}
use Rattle.fibs_rules.specs.Checkers.{Checkers}
use Rattle.fibs_rules.specs.OneChecker.{one_of}
use Rattle.fibs_rules.specs.Search.{Kept, onward, reach_by, reaches, reaches_by, noted}
use Rattle.fibs_rules.proofs.SearchLemmas.LongestLoop.{rest_whole}

-- without a die the play is reached
pub reaches_none : (p : Checkers) (dice : List ℕ) (top : ℕ) (play : List Hop) → length dice ≡ 0
    → reaches p dice top play ≡ record { play = play; leads = p } ∷ []
reaches_none p [] top play e = refl
reaches_none p (die ∷ dice) top play e = absurd (omega arith)

-- with one it goes on by the first
pub reaches_more : (p : Checkers) (dice : List ℕ) (top : ℕ) (play : List Hop) → 0 < length dice
    → reaches p dice top play ≡ reaches_by p (get_or dice 0 0) (drop 1 dice) play top
unfolding reaches_by
reaches_more p [] top play h = absurd (omega arith)
reaches_more p (die ∷ dice) top play h = refl

-- from no place nothing is reached
pub reaches_start : (p : Checkers) (die : ℕ) (dice : List ℕ) (play : List Hop) → reaches_by p die dice play 0 ≡ []
unfolding reaches_by reach_by
reaches_start p die dice play = refl

-- a step of one checker from a place by a die
abbrev pub hop_by : ℕ → ℕ → Hop
hop_by from die = record { source = from; target = from - die }

-- from one place more, what goes on from it comes after
reaches_next : (p : Checkers) (die : ℕ) (dice : List ℕ) (play : List Hop) (n : ℕ) (o : Option Checkers)
    → one_of p (n + 1) die ≡ o
    → reaches_by p die dice play (n + 1) ≡ reaches_by p die dice play n
    ++ onward (λ q. reaches q dice (n + 1) (play ++ hop_by (n + 1) die ∷ [])) o
unfolding reaches_by reach_by
reaches_next p die dice play n o e =
    rw (add-one n)
    (ap (λ o. reach_by (λ hop q. reaches q dice hop.source (play ++ hop ∷ [])) p die n
    ++ onward (λ q. reaches q dice (suc n) (play ++ hop_by (suc n) die ∷ [])) o)
    (rw (add-one n) at e))

-- a step from it is gone on with
visit_some : (kept : Kept) (p q : Checkers) (die : ℕ) (dice : List ℕ) (play : List Hop) (n : ℕ)
    → one_of p (n + 1) die ≡ Some q
    → fold noted kept (reaches_by p die dice play (n + 1)) ≡ fold noted (fold noted kept (reaches_by p die dice play n))
    (reaches q dice (n + 1) (play ++ hop_by (n + 1) die ∷ []))
visit_some kept p q die dice play n e =
    ap (fold noted kept) (reaches_next p die dice play n (Some q) e)
    ∙ fold-append noted kept (reaches_by p die dice play n)
    (reaches q dice (n + 1) (play ++ hop_by (n + 1) die ∷ []))

-- if there is none, nothing comes after
pub visit_skip : (kept : Kept) (p : Checkers) (die : ℕ) (dice : List ℕ) (play : List Hop) (n : ℕ)
    → one_of p (n + 1) die ≡ None
    → fold noted kept (reaches_by p die dice play (n + 1)) ≡ fold noted kept (reaches_by p die dice play n)
visit_skip kept p die dice play n e = ap (fold noted kept) (reaches_next p die dice play n None e ∙ append-nil _)

-- there is room for one more step if dice are left
pub room_left : (play longer : List Hop) (hop : Hop) (dice : List ℕ) → longer ≡ play ++ hop ∷ [] → 0 < length dice
    → length play + length dice ≤ 4 → length longer + length (take (length dice - 1) (drop 1 dice)) ≤ 4
room_left play longer hop dice e some room =
    let l = ap length e in let r = ap length (rest_whole dice) in
    omega (arith, l, r, length-append {A = Hop}, length-drop 1 dice)

-- so the loop keeps what it is to keep
pub visited : (kept before after : Kept) (p q : Checkers) (die : ℕ) (dice : List ℕ) (play longer : List Hop)
    (hop : Hop) (n : ℕ) → one_of p (n + 1) die ≡ Some q
    → hop ≡ hop_by (n + 1) die → longer ≡ play ++ hop ∷ []
    → before ≡ fold noted kept (reaches_by p die (drop 1 dice) play n)
    → after ≡ fold noted before (reaches q (take (length dice - 1) (drop 1 dice)) (n + 1) longer)
    → after ≡ fold noted kept (reaches_by p die (drop 1 dice) play (n + 1))
visited kept before after p q die dice play longer hop n o h l b a =
    a ∙ ap (λ xs. fold noted xs (reaches q (take (length dice - 1) (drop 1 dice)) (n + 1) longer)) b
    ∙ ap (λ ds. fold noted (fold noted kept (reaches_by p die (drop 1 dice) play n)) (reaches q ds (n + 1) longer))
    (rest_whole dice)
    ∙ ap (λ ms. fold noted (fold noted kept (reaches_by p die (drop 1 dice) play n))
    (reaches q (drop 1 dice) (n + 1) ms)) (l ∙ ap (λ s. play ++ s ∷ []) h)
    ∙ sym (visit_some kept p q die (drop 1 dice) play n o)
