-- One checker by one die: the function is the relation.
use Rattle.std.proofs.Common.{◌≡◌, ℕ, suc, zero, ◌+◌, ◌-◌, ◌<◌, ◌≤◌, ◌⊎◌, inl, inr, Bool, true, false, cond, eq-eqb, List, [], ◌∷◌, get_or, drop, Some, None, refl, sym, ap, ◌∙◌, arith, get_or-drop}
use Rattle.std.specs.Prelude.{◌&&◌, ◌||◌, ◌==◌, nat_lt, nat_le, slice_index}
use Rattle.std.specs.List.{list_all}
use Rattle.std.proofs.lemmas.Bool.Decides.{nat_tests}
use Rattle.std.proofs.lemmas.Bool.{and_parts, or_cases, and_from, or_left, or_right, cases_eq, cases_lt, ltb-true, ltb-false, eqb-true, lt-ltb, le-ltb, le-leb, leb-true, both_ways, cond-true, cond-false}
use Rattle.fibs_rules.specs.Checkers.{Checkers, IsOpen, AllHome, moved, is_empty_from}
use Rattle.fibs_rules.specs.OneChecker.{One, Enters, Moves, BearsOff, BearsOffHighest, is_source, can_leave, one_of}

-- a list of zeros has 0 everywhere
pub zero_from_all : (xs : List ℕ) → list_all (λ n. n == 0) xs ≡ true → (s : ℕ) → get_or xs s 0 ≡ 0
zero_from_all [] h s = refl
zero_from_all (x ∷ xs) h zero = grind (arith, nat_tests)
zero_from_all (x ∷ xs) h (suc s) = zero_from_all xs (grind (arith, nat_tests)) s

-- and the other way round
pub all_from_zero : (xs : List ℕ) → ((s : ℕ) → get_or xs s 0 ≡ 0) → list_all (λ n. n == 0) xs ≡ true
all_from_zero [] h = refl
all_from_zero (x ∷ xs) h = let e = all_from_zero xs (λ s. h (suc s)) in let z : x ≡ 0 = h 0 in grind (arith, nat_tests)

-- what the test of empty places decides
pub zero_above : (p : Checkers) (k : ℕ) → is_empty_from p k ≡ true → (s : ℕ) → k ≤ s → slice_index p.own s ≡ 0
zero_above p k h s le =
    let e : get_or (drop k p.own) (s - k) 0 ≡ 0 = zero_from_all (drop k p.own) h (s - k) in
    let f : k + (s - k) ≡ s = omega arith in
    rw (get_or-drop, f) at e

-- and when it is true
pub empty_from_zero : (p : Checkers) (k : ℕ) → ((s : ℕ) → k ≤ s → slice_index p.own s ≡ 0) → is_empty_from p k ≡ true
empty_from_zero p k h = all_from_zero (drop k p.own) (λ s. rw get_or-drop (h (k + s) (omega arith)))

-- the ways to go, whatever is at the target
abbrev pub Goes : Checkers → ℕ → ℕ → ℕ → Type 0
Goes p from to die = Enters p from to die ⊎ Moves p from to die ⊎ BearsOff p from to die ⊎ BearsOffHighest p from to die

-- a choice that is true
pub chosen_true : (a x y : Bool) → cond a x y ≡ true → ((a ≡ true) × (x ≡ true)) ⊎ ((a ≡ false) × (y ≡ true))
chosen_true true x y e = inl (refl, e)
chosen_true false x y e = inr (refl, e)

-- a choice that gives something
pub chosen_some : {X : Type 0} (a : Bool) (x y : X) → cond a (Some x) None ≡ Some y → (a ≡ true) × (x ≡ y)
chosen_some true x y e = (refl, cc)
chosen_some false x y e = absurd cc

-- off by the die that is the place
exactly_off : (p : Checkers) (from die : ℕ) → 0 < slice_index p.own from → is_empty_from p 7 ≡ true → from ≡ die
    → Goes p from (from - die) die
exactly_off p from die occ home e =
    inr
    (inr
    (inl
    (record { home = λ s h. zero_above p 7 home s (omega arith); occupied = occ; exact = e; off = omega arith })))

-- off from the highest place
highest_off : (p : Checkers) (from die : ℕ) → 0 < from → 0 < slice_index p.own from → from ≤ die
    → is_empty_from p 7 ≡ true → is_empty_from p (from + 1) ≡ true → Goes p from (from - die) die
highest_off p from die lo occ le home e =
    elim (cases_eq from die) [
      | inl same ↦ exactly_off p from die occ home same
      | inr apart ↦ inr (inr (inr (record {
        home = λ s h. zero_above p 7 home s (omega arith);
        occupied = occ;
        larger = omega arith;
        highest = λ s h. zero_above p (from + 1) e s (omega arith);
        off = omega arith;
      })))
    ]

-- the parts of `can_leave`
abbrev is_off : Checkers → ℕ → ℕ → Bool
is_off p from die = is_empty_from p 7 && (from == die || is_empty_from p (from + 1))

-- what is tested if the bar is empty
abbrev is_unbarred : Checkers → ℕ → ℕ → Bool
is_unbarred p from die = nat_lt 0 (slice_index p.own from) && (nat_lt die from || is_off p from die)

-- a checker that the test lets off goes off
goes_off : (p : Checkers) (from die : ℕ) → 0 < from → 0 < slice_index p.own from → from ≤ die → is_off p from die ≡ true
    → Goes p from (from - die) die
goes_off p from die lo occ le e =
    let (home, which) = and_parts (is_empty_from p 7) (from == die || is_empty_from p (from + 1)) e in
    elim (or_cases (from == die) (is_empty_from p (from + 1)) which) [
      | inl same ↦ exactly_off p from die occ home (eqb-true from die same)
      | inr top ↦ highest_off p from die lo occ le home top
    ]

-- with an empty bar the tests let go whom the rules do
goes_unbarred : (p : Checkers) (from die : ℕ) → 0 < from → slice_index p.own 25 ≡ 0 → is_unbarred p from die ≡ true
    → Goes p from (from - die) die
goes_unbarred p from die lo bar e =
    let (test, rest) = and_parts (nat_lt 0 (slice_index p.own from)) (nat_lt die from || is_off p from die) e in
    let occ = ltb-true 0 (slice_index p.own from) test in
    elim (cases_lt die from) [
      | inl below ↦ inr (inl (record { bar_empty = bar; occupied = occ; onto = omega arith; on_board = omega arith }))
      | inr le ↦
          elim (or_cases (nat_lt die from) (is_off p from die) rest)
          [ inl t ↦ absurd (both_ways _ (le-ltb die from le) t) | inr t ↦ goes_off p from die lo occ le t ]
    ]

-- whom the tests let go the rules let go
can_leave_sound : (p : Checkers) (from die : ℕ) → 0 < from → die < 25 → can_leave p from die ≡ true
    → Goes p from (from - die) die
can_leave_sound p from die lo d e =
    elim (chosen_true (nat_lt 0 (slice_index p.own 25)) (from == 25) (is_unbarred p from die) e) [
      | inl w ↦ let f = eqb-true from 25 w.1 in
          inl (record { barred = ltb-true 0 (slice_index p.own 25) w.0; from_bar = f; onto = omega (arith, f) })
      | inr w ↦ let bar = ltb-false 0 (slice_index p.own 25) w.0 in goes_unbarred p from die lo (omega (arith, bar)) w.1
    ]

-- a place that passes is open
pub opens : (p : Checkers) (to : ℕ) → (nat_lt (slice_index p.other to) 2 || (to == 0)) ≡ true → IsOpen p to
opens p to e pos =
    elim (or_cases (nat_lt (slice_index p.other to) 2) (to == 0) e)
    [ inl t ↦ ltb-true _ _ t | inr t ↦ let z = eqb-true to 0 t in absurd (omega (arith, z)) ]

-- an open place passes
pub open_is : (p : Checkers) (to : ℕ) → IsOpen p to → (nat_lt (slice_index p.other to) 2 || (to == 0)) ≡ true
open_is p to h =
    elim (cases_lt 0 to)
    [ inl pos ↦ or_left _ _ (lt-ltb _ _ (h pos)) | inr none ↦ or_right _ _ (eq-eqb to 0 (omega arith)) ]

-- what the test of sources decides
is_source_true : (from : ℕ) → is_source from ≡ true → (0 < from) × (from ≤ 25)
is_source_true from e =
    let (l, r) = and_parts (nat_lt 0 from) (nat_le from 25) e in (ltb-true 0 from l, leb-true from 25 r)

-- and when it is true
source_is : (from : ℕ) → 0 < from → from ≤ 25 → is_source from ≡ true
source_is from l r = and_from _ _ (lt-ltb 0 from l) (le-leb from 25 r)

-- what the function finds is a step of the rules
pub one_sound : (p q : Checkers) (from die : ℕ) → die < 25 → one_of p from die ≡ Some q → One p from (from - die) die q
one_sound p q from die d e =
    let open_target : Bool = nat_lt (slice_index p.other (from - die)) 2 || (from - die == 0) in
    let (test, is) =
    chosen_some (is_source from && (can_leave p from die && open_target)) (moved p from (from - die)) q e in
    let (in_range, ways) = and_parts (is_source from) (can_leave p from die && open_target) test in
    let (leaves, free) = and_parts (can_leave p from die) open_target ways in
    let source = is_source_true from in_range in
    record {
      source = source;
      goes = can_leave_sound p from die source.0 d leaves;
      free =
          opens p (from - die) free;
      leads = sym is;
    }

-- with an empty bar the tests of leaving are these
unbarred_is : (p : Checkers) (from die : ℕ) → slice_index p.own 25 ≡ 0 → is_unbarred p from die ≡ true
    → can_leave p from die ≡ true
unbarred_is p from die bar e =
    cond-false (nat_lt 0 (slice_index p.own 25)) _ _ (le-ltb 0 (slice_index p.own 25) (omega arith)) ∙ e

-- whom the rules let off the tests let off
off_is : (p : Checkers) (from die : ℕ) → AllHome p → 0 < slice_index p.own from
    → ((from == die) || is_empty_from p (from + 1)) ≡ true → can_leave p from die ≡ true
off_is p from die home occ e =
    unbarred_is p from die (home 25 (omega arith))
    (and_from _ _ (lt-ltb _ _ occ)
    (or_right _ _ (and_from _ _ (empty_from_zero p 7 (λ s h. home s (omega arith))) e)))

-- whom the rules let go the tests let go
can_leave_complete : (p : Checkers) (from to die : ℕ) → Goes p from to die
    → (to ≡ from - die) × (can_leave p from die ≡ true)
can_leave_complete p from to die (inl h) =
    (omega arith, cond-true (nat_lt 0 (slice_index p.own 25)) _ _ (lt-ltb _ _ h.barred) ∙ eq-eqb from 25 h.from_bar)
can_leave_complete p from to die (inr (inl h)) = (
  omega arith,
  unbarred_is p from die h.bar_empty
      (and_from _ _ (lt-ltb _ _ h.occupied) (or_left _ _ (lt-ltb die from (omega arith)))),
)
can_leave_complete p from to die (inr (inr (inl h))) =
    (omega arith, off_is p from die h.home h.occupied (or_left _ _ (eq-eqb from die h.exact)))
can_leave_complete p from to die (inr (inr (inr h))) = (
  omega arith,
  off_is p from die h.home h.occupied
      (or_right _ _ (empty_from_zero p (from + 1) (λ s le. h.highest s (omega arith)))),
)

-- a step of the rules is what the function finds
pub one_complete : (p q : Checkers) (from to die : ℕ) → One p from to die q
    → (to ≡ from - die) × (one_of p from die ≡ Some q)
one_complete p q from to die h =
    let (at, leaves) = can_leave_complete p from to die h.goes in
    let free = open_is p to h.free in
    let test = and_from _ _ (source_is from h.source.0 h.source.1) (and_from _ _ leaves free) in
    let chosen : one_of p from die ≡ Some (moved p from (from - die)) = rw (sym at) (cond-true _ _ _ test) in
    (at, chosen ∙ rw (sym at) (ap Some (sym h.leads)))
