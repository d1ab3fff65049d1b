-- The counter keeps the laws of a game.
use Rattle.std.proofs.Common.{◌≡◌, inl, inr, ℕ, zero, suc, ◌+◌, Bool, true, false, List, [], ◌∷◌, ◌++◌, Option, Some, None, if◌then◌else◌, nat_eq, refl, sym, ◌∙◌, ap, subst, append_assoc, arith, true≢false}
use Rattle.std.proofs.lemmas.Bool.Decides.{eqb_tells}
use Rattle.fibs_game.specs.declared.refusal.Refusal.{Refusal}
use Rattle.fibs_game.specs.declared.refusal.Refusal.TheVariants.{NotYours}
use Rattle.fibs_game.specs.Counter.{Count, Raise, by_one, by_two, amount, raised, lines_from, strokes, tally, said, spelled, counter}
use Rattle.fibs_game.specs.Game.{shows}
use Rattle.fibs_game.specs.Lawful.{Lawful}
use Rattle.fibs_game.specs.Machine.{on_wire}

-- a number is found to be itself
same : (n : ℕ) → nat_eq n n ≡ true
same n = elim (eqb_tells n n) [ inl p ↦ p.0 | inr p ↦ absurd (p.1 refl) ]

-- what is found to be the same is
is_same : (n m : ℕ) → nat_eq n m ≡ true → n ≡ m
is_same n m h = elim (eqb_tells n m) [ inl p ↦ p.1 | inr p ↦ absurd (true≢false (sym h ∙ p.0)) ]

-- a raised number is another
other : (n : ℕ) (d : Raise) → nat_eq n (n + amount d) ≡ false
other n by_one = elim (eqb_tells n (n + 1)) [ inl p ↦ let e = p.1 in absurd (omega arith) | inr p ↦ p.0 ]
other n by_two = elim (eqb_tells n (n + 2)) [ inl p ↦ let e = p.1 in absurd (omega arith) | inr p ↦ p.0 ]

-- the second list is the first and more
abbrev More : List (List ℕ) → List (List ℕ) → Type 0
More xs ys = (later : List (List ℕ)) × (ys ≡ xs ++ later)

-- of two choices, if it is so of both
more_if : (z : Bool) (xs xs' ys ys' : List (List ℕ)) → More xs ys → More xs' ys'
    → More (if z then xs else xs') (if z then ys else ys')
more_if true xs xs' ys ys' p q = p
more_if false xs xs' ys ys' p q = q

-- one list is another and these
joined_if : (z : Bool) (xs xs' ys ys' more : List (List ℕ)) → ys ≡ xs ++ more → ys' ≡ xs' ++ more
    → (if z then ys else ys') ≡ (if z then xs else xs') ++ more
joined_if true xs xs' ys ys' more p q = p
joined_if false xs xs' ys ys' more p q = q

-- more bytes give more lines
grow : (part s t : List ℕ) → More (lines_from part s) (lines_from part (s ++ t))
grow part [] t = (lines_from part t, refl)
grow part (b ∷ s) t =
    let k = grow [] s t in
    more_if (nat_eq b 10) _ _ _ _ (k.0, ap (λ ls. part ∷ ls) k.1) (grow (part ++ b ∷ []) s t)

-- what follows a line end reads alone
alone : (part t s : List ℕ) → lines_from part (on_wire t ++ s) ≡ lines_from part (on_wire t) ++ lines_from [] s
alone part [] s = refl
alone part (b ∷ t) s =
    joined_if (nat_eq b 10) _ _ _ _ (lines_from [] s) (ap (λ ls. part ∷ ls) (alone [] t s))
    (alone (part ++ b ∷ []) t s)

-- strokes with CR LF end one line
one_line : (part : List ℕ) (n : ℕ) → lines_from part (on_wire (strokes n)) ≡ (part ++ (strokes n ++ 13 ∷ [])) ∷ []
one_line part zero = refl
one_line part (suc n) =
    one_line (part ++ 49 ∷ []) n ∙ ap (λ l. l ∷ []) (append_assoc part (49 ∷ []) (strokes n ++ 13 ∷ []))

-- as many are counted
counts : (n : ℕ) → tally (strokes n ++ 13 ∷ []) ≡ n
counts zero = refl
counts (suc n) = ap suc (counts n)

-- a count that is shown is one line, which reads as that count
prints : (n : ℕ) (yours : Bool) → (l : List ℕ)
    × (lines_from [] (on_wire (spelled (record { value = n; yours = yours }))) ≡ l ∷ [])
    × (said l ≡ shows (record { value = n; yours = yours }))
prints n true =
    (89 ∷ (strokes n ++ 13 ∷ []), one_line (89 ∷ []) n, ap (λ m. shows (record { value = m; yours = true })) (counts n))
prints n false = (
  84 ∷ (strokes n ++ 13 ∷ []),
  one_line (84 ∷ []) n,
  ap (λ m. shows (record { value = m; yours = false }))
      (counts n),
)

-- a raise is allowed on the user's turn
on_turn : (z : Bool) → ◌≡◌ {A = Option Refusal} (if z then None else Some NotYours) None → z ≡ true
on_turn true h = refl
on_turn false h = cc

-- what is raised was the user's to raise, and then it is not
record Led (b : Count) (d : Raise) (next : Count) : Type 0 where
  yours : b.yours ≡ true
  value : next.value ≡ b.value + amount d
  theirs : next.yours ≡ false

-- so it is
led : (b : Count) (d : Raise) (next : Count) → raised b d ≡ Some next → Led b d next
led b d next = go b.yours refl
  where
    go : (z : Bool) → b.yours ≡ z
        → (if z then Some (record { value = b.value + amount d; yours = false }) else None) ≡ Some next → Led b d next
    go true e h =
        let is : (record { value = b.value + amount d; yours = false }) ≡ next = cc in
        record {
          yours = e;
          value = ap (λ (c : Count). c.value) (sym is);
          theirs = ap (λ (c : Count). c.yours) (sym is);
        }
    go false e h = cc

-- the text of each raise is read as that raise
reads : (d : Raise) → counter.decision_in (record { value = 0; yours = true })
    (counter.command (record { value = 0; yours = true }) d) ≡ Some d
reads by_one = refl
reads by_two = refl

-- and holds no CR
plain_text : (d : Raise) → Rattle.fibs_game.specs.Lawful.NoReturn (Rattle.fibs_game.specs.Counter.text_of d)
plain_text by_one = (refl, tt)
plain_text by_two = (refl, tt)

-- all laws
pub lawful : Lawful counter
lawful = record {
  empty = refl;
  grow = grow [];
  alone = alone [];
  likeness = record {
    like_itself = λ a. same a.value;
    like_back = λ a b h. rw (is_same a.value b.value h) (same b.value);
    like_on = λ a b c h k. rw (is_same a.value b.value h ∙ is_same b.value c.value k) (same c.value);
  };
  differ = λ a b h. h;
  good_means = λ b h. tt;
  allowed_means = λ b d g h. (tt, on_turn b.yours h);
  allowed_decides = λ b d h. on_turn b.yours h;
  allowed_acts = λ b d d1 d2 g h i j. (
    record { value = b.value + amount d; yours = false },
    ap (λ z. if z then Some (record { value = b.value + amount d; yours = false }) else None) (on_turn b.yours h),
    refl,
    other b.value d,
  );
  effect_leads = λ b d d1 d2 next h. h;
  leads_on = λ b d d1 d2 next h. subst (λ n. nat_eq b.value n ≡ false) (sym (led b d next h).value) (other b.value d);
  no_three = λ a b c after d e f d1 d2 e1 e2 f1 f2 h k l.
      true≢false (sym (led b e c k).yours ∙ (led a d b h).theirs);
  no_roll = λ b d d1 d2 next h. (led b d next h).theirs;
  reads_back = λ b d g h. reads d;
  decision_text = λ b d g h. plain_text d;
  style_quiet = record { text = (refl, tt); quiet = λ b. refl };
  plain_quiet = λ p h. absurd p;
  info_quiet = λ m. tt;
  few_initial = λ m. omega arith;
  prints_line = λ b g. prints b.value b.yours;
}
