-- Two steps, the second from a higher place, may be played in the other order.
use Rattle.std.proofs.Common.{◌≡◌, ◌≢◌, ℕ, ◌+◌, ◌<◌, ◌≤◌, ◌⊎◌, inl, inr, List, length, get_or, Bool, true, false, refl, sym, ap, subst, ◌∙◌, arith}
use Rattle.std.specs.Prelude.{◌&&◌, ◌==◌, nat_lt, slice_index}
use Rattle.std.proofs.lemmas.Bool.{cases_eq, cases_lt, cond-true, cond-false, cases_Bool, cond_both, and_parts, and_left, ltb-true, eqb-true, le-ltb}
use Rattle.std.proofs.lemmas.Bool.Decides.{nat_tests}
use Rattle.std.proofs.lemmas.Grind.{same_number_lists}
use Rattle.fibs_rules.specs.Checkers.{Checkers, AllHome, moved, shifted, hit}
use Rattle.fibs_rules.specs.OneChecker.{One}
use Rattle.fibs_rules.specs.Laws.{StepsSwap}
use Rattle.fibs_rules.proofs.RuleLemmas.CheckerCounts.{shift_at, shift_else, shift_to, shifted_at, shifted_long, stands}
use Rattle.fibs_rules.proofs.RuleLemmas.OneChecker.{Goes}

-- two shifts of one count swap
shifts_swap : (x k f t g u : ℕ) → f ≢ t → g ≢ u → f ≢ g → (k ≡ f → 0 < x) → (k ≡ g → 0 < x)
    → shift_at (shift_at x k f t) k g u ≡ shift_at (shift_at x k g u) k f t
shifts_swap x k f t g u a b c some other = grind (arith, nat_tests)

-- two shifts of a list swap
shifted_swap : (xs : List ℕ) (f t g u : ℕ) → f ≢ t → g ≢ u → f ≢ g → f < length xs → t < length xs → g < length xs
    → u < length xs → 0 < get_or xs f 0 → 0 < get_or xs g 0
    → shifted (shifted xs f t) g u ≡ shifted (shifted xs g u) f t
shifted_swap xs f t g u a b c lf lt lg lu sf sg =
    let n = shifted_long xs f t in let m = shifted_long xs g u in
    same_number_lists (shifted (shifted xs f t) g u) (shifted (shifted xs g u) f t)
    (shifted_long (shifted xs f t) g u ∙ n ∙ sym m ∙ sym (shifted_long (shifted xs g u) f t))
    (λ k h.
    shifted_at (shifted xs f t) g u k b (omega (arith, n)) (omega (arith, n))
    ∙ ap (λ x. shift_at x k g u) (shifted_at xs f t k a lf lt)
    ∙ shifts_swap (get_or xs k 0) k f t g u a b c (λ e. subst (λ j. 0 < get_or xs j 0) (sym e) sf)
    (λ e. subst (λ j. 0 < get_or xs j 0) (sym e) sg)
    ∙ sym (shifted_at (shifted xs g u) f t k a (omega (arith, m)) (omega (arith, m))
    ∙ ap (λ x. shift_at x k f t) (shifted_at xs g u k b lg lu)))

-- a checker that comes to this place hits
abbrev hits : List ℕ → ℕ → Bool
hits ys t = nat_lt 0 t && (get_or ys t 0 == 1)

-- a hit leaves other places
hit_else : (ys : List ℕ) (t u : ℕ) → u ≢ t → 0 < u → get_or (hit ys t) u 0 ≡ get_or ys u 0
hit_else ys t u n pos =
    cond_both (hits ys t) (shifted ys t 0) ys (λ zs. get_or zs u 0 ≡ get_or ys u 0)
    (λ e.
    let (some, one) = and_parts (nat_lt 0 t) (get_or ys t 0 == 1) e in
    let lo = ltb-true 0 t some in let is = eqb-true (get_or ys t 0) 1 one in
    let l = stands ys t (omega (arith, is)) in
    shifted_at ys t 0 u (omega (arith, lo)) l (omega (arith, l)) ∙ shift_else (get_or ys u 0) u t 0 n (omega arith))
    (λ e. refl)

-- a hit elsewhere leaves whether one is hit
hits_same : (ys : List ℕ) (t u : ℕ) → u ≢ t → hits (hit ys t) u ≡ hits ys u
hits_same ys t u n = elim (cases_lt 0 u) [
  | inl pos ↦ ap (λ x. nat_lt 0 u && (x == 1)) (hit_else ys t u n pos)
  | inr none ↦ and_left _ _ (le-ltb 0 u none) ∙ sym (and_left _ _ (le-ltb 0 u none))
]

-- if one is hit, it is shifted to the bar
hit_yes : (ys : List ℕ) (t : ℕ) → hits ys t ≡ true → hit ys t ≡ shifted ys t 0
hit_yes ys t e = cond-true (hits ys t) (shifted ys t 0) ys e

-- if none is, nothing changes
hit_no : (ys : List ℕ) (t : ℕ) → hits ys t ≡ false → hit ys t ≡ ys
hit_no ys t e = cond-false (hits ys t) (shifted ys t 0) ys e

-- two hits swap
hits_swap : (ys : List ℕ) (t u : ℕ) → t ≢ u → hits ys t ≡ true → hits ys u ≡ true
    → shifted (shifted ys t 0) u 0 ≡ shifted (shifted ys u 0) t 0
hits_swap ys t u n a b =
    let (st, ot) = and_parts (nat_lt 0 t) (get_or ys t 0 == 1) a in
    let (su, ou) = and_parts (nat_lt 0 u) (get_or ys u 0 == 1) b in
    let lt = ltb-true 0 t st in let lu = ltb-true 0 u su in
    let et = eqb-true (get_or ys t 0) 1 ot in let eu = eqb-true (get_or ys u 0) 1 ou in
    let it = stands ys t (omega (arith, et)) in let iu = stands ys u (omega (arith, eu)) in
    shifted_swap ys t 0 u 0 (omega (arith, lt)) (omega (arith, lu)) n it (omega (arith, it)) iu (omega (arith, iu))
    (omega (arith, et)) (omega (arith, eu))

-- so they do if one of them hits nothing
hit_swap : (ys : List ℕ) (t u : ℕ) → t ≢ u → hit (hit ys t) u ≡ hit (hit ys u) t
hit_swap ys t u n =
    let m : u ≢ t = λ e. n (sym e) in
    elim (cases_Bool (hits ys t)) [
      | inl a ↦ elim (cases_Bool (hits ys u)) [
        | inl b ↦
            hit_yes (hit ys t) u (hits_same ys t u m ∙ b) ∙ ap (λ zs. shifted zs u 0) (hit_yes ys t a)
            ∙ hits_swap ys t u n a b
            ∙ sym (hit_yes (hit ys u) t (hits_same ys u t n ∙ a) ∙ ap (λ zs. shifted zs t 0) (hit_yes ys u b))
        | inr b ↦ hit_no (hit ys t) u (hits_same ys t u m ∙ b) ∙ ap (λ zs. hit zs t) (sym (hit_no ys u b))
      ]
      | inr a ↦ ap (λ zs. hit zs u) (hit_no ys t a) ∙ sym (hit_no (hit ys u) t (hits_same ys u t n ∙ a))
    ]

-- what is known of a step that is not from the bar
record Low (p : Checkers) (f t d : ℕ) : Type 0 where
  bar : slice_index p.own 25 ≡ 0
  occupied : 0 < slice_index p.own f
  below : t < f
  how : ((t + d ≡ f) × (0 < t)) ⊎ ((f ≡ d) × (t ≡ 0) × AllHome p)
      ⊎ ((f < d) × ((s : ℕ) → f < s → slice_index p.own s ≡ 0))

-- a step from below place 25 is one of these
low : (p : Checkers) (f t d : ℕ) → 0 < d → 0 < f → f < 25 → Goes p f t d → Low p f t d
low p f t d die pos lt (inl h) = absurd (let e = h.from_bar in omega (arith, e))
low p f t d die pos lt (inr (inl h)) =
    record {
      bar = h.bar_empty;
      occupied = h.occupied;
      below = let e = h.onto in omega (arith, e);
      how =
          inl (h.onto, h.on_board);
    }
low p f t d die pos lt (inr (inr (inl h))) =
    record {
      bar = h.home 25 (omega arith);
      occupied = h.occupied;
      below = let e = h.off in omega (arith, e);
      how =
          inr (inl (h.exact, h.off, h.home));
    }
low p f t d die pos lt (inr (inr (inr h))) =
    record {
      bar = h.home 25 (omega arith);
      occupied = h.occupied;
      below = let e = h.off in omega (arith, e);
      how =
          inr (inr (h.larger, h.highest));
    }

-- a place above a step keeps its count
moved_above : (p : Checkers) (f t g : ℕ) → f < g → t < f → 0 < slice_index p.own f
    → slice_index (moved p f t).own g ≡ slice_index p.own g
moved_above p f t g lt below occ =
    let l = stands p.own f occ in
    shifted_at p.own f t g (omega arith) l (omega (arith, l))
    ∙ shift_else (get_or p.own g 0) g f t (omega arith) (omega arith)

-- below an own checker it goes as far as the die says
goes_whole : (p : Checkers) (f t g d : ℕ) → f < g → Low p f t d → 0 < slice_index p.own g
    → (t + d ≡ f) × ((0 < t) ⊎ (t ≡ 0) × AllHome p)
goes_whole p f t g d lt a occ = elim a.how [
  | inl w ↦ (w.0, inl w.1)
  | inr v ↦ elim v [
    | inl w ↦ let x = w.0 in let y = w.1 in (omega (arith, x, y), inr (w.1, w.2))
    | inr w ↦ let x = w.1 g lt in absurd (omega (arith, occ, x))
  ]
]

-- a place above another has its checkers after a step from there
still_above : (p : Checkers) (f t g : ℕ) → f < g → t < f → 0 < slice_index p.own f
    → 0 < slice_index (moved p f t).own g → 0 < slice_index p.own g
still_above p f t g lt below occ o = let same = moved_above p f t g lt below occ in omega (arith, same, o)

-- if all are home after a step from below another checker, all were before
home_before : (p : Checkers) (f t g : ℕ) → f < g → t < f → 0 < slice_index p.own f
    → 0 < slice_index (moved p f t).own g → AllHome (moved p f t) → AllHome p
home_before p f t g lt below occ o home s far =
    let near : g ≤ 6 =
    elim (cases_lt 6 g) [ inl past ↦ (let z = home g past in absurd (omega (arith, z, o))) | inr near ↦ near ] in
    let same = moved_above p f t s (omega (arith, near)) below occ in
    let z = home s far in
    omega (arith, same, z)

-- the second of two such steps can be made before the first
second_goes : (p : Checkers) (f t g u d e : ℕ) → f < g → g ≤ 25 → Low p f t d → Goes (moved p f t) g u e
    → (0 < slice_index p.own g) × Goes p g u e
second_goes p f t g u d e lt hi a (inl h) =
    let same = moved_above p f t 25 (omega arith) a.below a.occupied in let b = a.bar in let c = h.barred in
    absurd (omega (arith, same, b, c))
second_goes p f t g u d e lt hi a (inr (inl h)) =
    let occ = still_above p f t g lt a.below a.occupied h.occupied in
    (occ, inr (inl (record { bar_empty = a.bar; occupied = occ; onto = h.onto; on_board = h.on_board })))
second_goes p f t g u d e lt hi a (inr (inr (inl h))) =
    let occ = still_above p f t g lt a.below a.occupied h.occupied in
    let home = home_before p f t g lt a.below a.occupied h.occupied h.home in
    (occ, inr (inr (inl (record { home = home; occupied = occ; exact = h.exact; off = h.off }))))
second_goes p f t g u d e lt hi a (inr (inr (inr h))) =
    let occ = still_above p f t g lt a.below a.occupied h.occupied in
    let home = home_before p f t g lt a.below a.occupied h.occupied h.home in
    let none : (s : ℕ) → g < s → slice_index p.own s ≡ 0 =
    λ s past.
    let same = moved_above p f t s (omega arith) a.below a.occupied in let z = h.highest s past in
    omega (arith, same, z) in
    (occ, inr (inr (inr (record { home = home; occupied = occ; larger = h.larger; highest = none; off = h.off }))))

-- the first step after the second
first_after : (p : Checkers) (f t g u d : ℕ) → 0 < d → f < g → g < 25 → Low p f t d → 0 < slice_index p.own g
    → u < g → Goes p f t d → Goes (moved p g u) f t d
first_after p f t g u d die lt hi a occ onto goes = let whole = goes_whole p f t g d lt a occ in elim whole.1 [
  | inl w ↦ inr (inl (record { bar_empty = at_bar; occupied = still; onto = whole.0; on_board = w }))
  | inr w ↦ let x = whole.0 in let y = w.0 in
      inr (inr (inl (record {
        home = λ s h. kept_home w.1 s h;
        occupied = still;
        exact = omega (arith, x, y);
        off = y;
      })))
]
  where
    place : g < length p.own
    place = stands p.own g occ

    at : (k : ℕ) → slice_index (moved p g u).own k ≡ shift_at (slice_index p.own k) k g u
    at k = shifted_at p.own g u k (omega arith) place (let l = place in omega (arith, l))

    at_bar : slice_index (moved p g u).own 25 ≡ 0
    at_bar = at 25 ∙ shift_else (slice_index p.own 25) 25 g u (omega arith) (omega arith) ∙ a.bar

    still : 0 < slice_index (moved p g u).own f
    still = let o = a.occupied in elim (cases_eq f u) [
      | inl e ↦ let x = at f ∙ shift_to (slice_index p.own f) f g u (omega arith) e in omega (arith, x)
      | inr n ↦ let x = at f ∙ shift_else (slice_index p.own f) f g u (omega arith) n in omega (arith, x, o)
    ]

    kept_home : AllHome p → (s : ℕ) → 6 < s → slice_index (moved p g u).own s ≡ 0
    kept_home home s h =
        let z = home s h in
        let n : s ≢ g = λ e. let y = home g (omega (arith, h, e)) in omega (arith, occ, y) in
        elim (cases_lt 6 g) [
          | inl far ↦ let y = home g far in absurd (omega (arith, occ, y))
          | inr near ↦ at s ∙ shift_else (slice_index p.own s) s g u n (omega arith) ∙ z
        ]

-- two hits swap, also on one place
hits_any : (ys : List ℕ) (t u : ℕ) → hit (hit ys t) u ≡ hit (hit ys u) t
hits_any ys t u = elim (cases_eq t u) [
  | inl e ↦ subst (λ k. hit (hit ys t) k ≡ hit (hit ys k) t) e refl
  | inr n ↦ hit_swap ys t u n
]

-- both orders lead to one arrangement
swapped : (p : Checkers) (f t g u d : ℕ) → f < g → Low p f t d → 0 < slice_index p.own g → u < g
    → moved (moved p f t) g u ≡ moved (moved p g u) f t
swapped p f t g u d lt a occ down =
    let lf = stands p.own f a.occupied in
    let lg = stands p.own g occ in
    let below = a.below in
    let own =
    shifted_swap p.own f t g u (omega (arith, below)) (omega arith) (omega arith) lf (omega (arith, lf, below)) lg
    (omega (arith, lg)) a.occupied occ in
    let other = hits_any p.other t u in
    λ i. record { own = own i; other = other i }

-- a place is open before a hit if it is after it, or was hit
open_first : (ys : List ℕ) (t u : ℕ) → (0 < t → get_or ys t 0 < 2) → (0 < u → get_or (hit ys t) u 0 < 2) → 0 < u
    → get_or ys u 0 < 2
open_first ys t u one two pos = elim (cases_eq t u) [
  | inl e ↦ subst (λ k. 0 < k → get_or ys k 0 < 2) e one pos
  | inr n ↦ let x = two pos in let y = hit_else ys t u (λ e. n (sym e)) pos in omega (arith, x, y)
]

-- and is open after the other hit
open_second : (ys : List ℕ) (t u : ℕ) → (0 < t → get_or ys t 0 < 2) → (0 < u → get_or (hit ys t) u 0 < 2) → 0 < t
    → get_or (hit ys u) t 0 < 2
open_second ys t u one two pos = elim (cases_eq t u) [
  | inl e ↦ subst (λ k. get_or (hit ys k) t 0 < 2) e
      (subst (λ k. 0 < k → get_or (hit ys t) k 0 < 2) (sym e) two pos)
  | inr n ↦ let x = one pos in let y = hit_else ys u t n pos in omega (arith, x, y)
]

-- a step goes down
goes_down : (p : Checkers) (g u e : ℕ) → 0 < e → 0 < g → Goes p g u e → u < g
goes_down p g u e die pos (inl h) = let x = h.onto in let y = h.from_bar in omega (arith, x, y)
goes_down p g u e die pos (inr (inl h)) = let x = h.onto in omega (arith, x)
goes_down p g u e die pos (inr (inr (inl h))) = let x = h.off in omega (arith, x)
goes_down p g u e die pos (inr (inr (inr h))) = let x = h.off in omega (arith, x)

-- the second step can be played first, and then the first
steps_swap_at : (p q : Checkers) (f t g u d e : ℕ) → 0 < d → 0 < e → f < g → One p f t d (moved p f t)
    → One (moved p f t) g u e q → (other : Checkers) × One p g u e other × One other f t d q
steps_swap_at p q f t g u d e die next lt one two =
    let s = one.source in let s2 = two.source in
    let a = low p f t d die s.0 (omega (arith, s2)) one.goes in
    let (occ, goes) = second_goes p f t g u d e lt s2.1 a two.goes in
    let bar = a.bar in
    let hi : g < 25 =
    elim (cases_eq g 25) [
      | inl e ↦ let x : slice_index p.own g ≡ 0 = subst (λ k. slice_index p.own k ≡ 0) (sym e) bar in
          absurd (omega (arith, x, occ))
      | inr n ↦ omega (arith, s2)
    ] in
    let down = goes_down p g u e next s2.0 goes in (
      moved p g u,
      record {
        source = s2;
        goes = goes;
        free = open_first p.other t u one.free two.free;
        leads = refl;
      },
      record {
        source = s;
        goes = first_after p f t g u d die lt hi a occ down one.goes;
        free = open_second p.other t u one.free two.free;
        leads = two.leads ∙ swapped p f t g u d lt a occ down;
      },
    )

-- so two steps swap, whatever the dice
pub dice_swap : (p r q : Checkers) (f t g u d e : ℕ) → 0 < d → 0 < e → f < g → One p f t d r → One r g u e q
    → (other : Checkers) × One p g u e other × One other f t d q
dice_swap p r q f t g u d e die next lt one two =
    steps_swap_at p q f t g u d e die next lt (subst (λ c. One p f t d c) one.leads one)
    (subst (λ c. One c g u e q) one.leads two)

-- so the law holds
pub steps_swap : StepsSwap
steps_swap p r q f t g u d die lt one two = dice_swap p r q f t g u d d die die lt one two
