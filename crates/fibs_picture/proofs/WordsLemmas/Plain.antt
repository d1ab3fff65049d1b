-- No row of a board has a line end within it, or begins with a space.
use Rattle.std.proofs.Common.{◌≡◌, ◌<◌, ◌≤◌, ◌+◌, ◌-◌, ◌^◌, ◌==◌, ◌++◌, ℕ, zero, suc, Bool, true, false, not, cond, List, [], ◌∷◌, codes, refl, arith, lit<}
use Rattle.std.specs.Prelude.{decimal}
use Rattle.std.specs.List.{flat_map, filter, range_with_len}
use Rattle.std.proofs.lemmas.Bool.{and_parts, false≢true}
use Rattle.fibs_rules.specs.Checkers.{Checkers}
use Rattle.fibs_position.specs.DirectionOf.{line_place}
use Rattle.fibs_position.specs.declared.direction.Direction.{Direction}
use Rattle.fibs_picture.specs.InWords.Rows.{goes_on}
use Rattle.fibs_picture.specs.InWords.Watched.{held_named, blots_named}
use Rattle.fibs_picture.specs.InWords.Words.{place_of, place_name, stack, stacks, off_said, side_row, is_listed, counted_by, listed, joined, numbers, numbers_of, held_row, blots_of, both_blots, blots_row}
use Rattle.fibs_picture.specs.declared.in_words.listed.Listed.{Listed}
use Rattle.fibs_picture.specs.declared.in_words.listed.Listed.TheVariants as L
use Rattle.fibs_picture.specs.declared.in_words.side.Side.{Side}
use Rattle.fibs_picture.proofs.PictureLemmas.Parts.{lacks, lacks-append, decimal-lacks}
use Rattle.fibs_picture.proofs.WordsLemmas.Places.{Few, line-small, place-small}

-- a row has no line end and does not begin with a space
pub record IsRow (row : List ℕ) : Type 0 where
  pub plain : lacks 10 row ≡ true
  pub begins : goes_on row ≡ false

-- a byte that is not c is not found to be c
pub not-found : (b : Bool) → not b ≡ true → b ≡ false
not-found true h = absurd (false≢true h)
not-found false h = refl

-- what begins with a name and then a byte does not begin with a space
pub name-begins : (name : List ℕ) (c : ℕ) (u : List ℕ) → lacks 32 name ≡ true → lacks 10 name ≡ true
    → (c == 10) ≡ false → (c == 32) ≡ false → goes_on (name ++ (c ∷ u)) ≡ false
name-begins [] c u h k x y = rw (x, y) refl
name-begins (b ∷ name) c u h k x y =
    let space = not-found (b == 32) (and_parts (not (b == 32)) (lacks 32 name) h).0 in
    let end = not-found (b == 10) (and_parts (not (b == 10)) (lacks 10 name) k).0 in
    rw (end, space) refl

-- ---- places

-- the name of a place by whether it is the bar
name_text-plain : (bar : Bool) (n : ℕ) → n < 2 ^ 64 → lacks 10 (cond bar (codes "the bar") (decimal n)) ≡ true
name_text-plain true n h = refl
name_text-plain false n h = decimal-lacks 10 n (lit< tt) h

-- the name of a place
place-plain : (d : Direction) (s : Side) (steps : ℕ) → steps ≤ 25 → lacks 10 (place_name d s steps) ≡ true
place-plain d s steps h = name_text-plain (steps == 0) (line_place d (place_of s steps))
    (line-small d (place_of s steps) (place-small s steps h))

-- so many checkers there, by whether there are none
stack_text-plain : (none : Bool) (n : ℕ) (name : List ℕ) → n < 2 ^ 64 → lacks 10 name ≡ true
    → lacks 10 (cond none [] (decimal n ++ (codes " on " ++ (name ++ codes ", ")))) ≡ true
stack_text-plain true n name h k = refl
stack_text-plain false n name h k =
    lacks-append 10 (decimal n) (codes " on " ++ (name ++ codes ", ")) (decimal-lacks 10 n (lit< tt) h)
    (lacks-append 10 (codes " on ") (name ++ codes ", ") refl (lacks-append 10 name (codes ", ") k refl))

-- a stack
stack-plain : (d : Direction) (s : Side) (f : ℕ → ℕ) → Few f → (steps : ℕ) → steps ≤ 25
    → lacks 10 (stack d s f steps) ≡ true
unfolding stack
stack-plain d s f few steps h =
    stack_text-plain (f steps == 0) (f steps) (place_name d s steps) (few steps) (place-plain d s steps h)

-- the stacks of some places
some-stacks-plain : (d : Direction) (s : Side) (f : ℕ → ℕ) → Few f → (a n : ℕ) → a + n ≤ 26
    → lacks 10 (flat_map (stack d s f) (range_with_len a n)) ≡ true
some-stacks-plain d s f few a zero h = refl
some-stacks-plain d s f few a (suc n) h =
    lacks-append 10 (stack d s f a) (flat_map (stack d s f) (range_with_len (a + 1) n))
    (stack-plain d s f few a (omega (arith, h))) (some-stacks-plain d s f few (a + 1) n (omega (arith, h)))

-- the stacks of the first places
stacks-plain : (d : Direction) (s : Side) (f : ℕ → ℕ) → Few f → lacks 10 (stacks d s f 25) ≡ true
unfolding stacks
stacks-plain d s f few = some-stacks-plain d s f few 0 25 (omega arith)

-- a number of checkers, or that there are none
off_text-plain : (none : Bool) (n : ℕ) → n < 2 ^ 64 → lacks 10 (cond none (codes "none") (decimal n)) ≡ true
off_text-plain true n h = refl
off_text-plain false n h = decimal-lacks 10 n (lit< tt) h

-- how many are off
off-plain : (n : ℕ) → n < 2 ^ 64 → lacks 10 (off_said n) ≡ true
off-plain n h = lacks-append 10 (cond (n == 0) (codes "none") (decimal n)) (codes " off.")
    (off_text-plain (n == 0) n h) refl

-- the row of a side
pub side-plain : (name : List ℕ) (pips : ℕ) (d : Direction) (s : Side) (f : ℕ → ℕ) → lacks 10 name ≡ true
    → pips < 2 ^ 64 → Few f → lacks 10 (side_row name pips d s f) ≡ true
unfolding side_row
side-plain name pips d s f h few_pips few =
    let off = off_said (f 25) in
    let on = stacks d s f 25 in
    lacks-append 10 name (codes ", " ++ (decimal pips ++ (codes " pips: " ++ (on ++ off)))) h
    (lacks-append 10 (codes ", ") (decimal pips ++ (codes " pips: " ++ (on ++ off))) refl
    (lacks-append 10 (decimal pips) (codes " pips: " ++ (on ++ off)) (decimal-lacks 10 pips (lit< tt) few_pips)
    (lacks-append 10 (codes " pips: ") (on ++ off) refl
    (lacks-append 10 on off (stacks-plain d s f few) (off-plain (f 25) (few 25))))))

-- it begins with the name
pub side-begins : (name : List ℕ) (pips : ℕ) (d : Direction) (s : Side) (f : ℕ → ℕ) → lacks 10 name ≡ true
    → lacks 32 name ≡ true → goes_on (side_row name pips d s f) ≡ false
unfolding side_row
side-begins name pips d s f h k = name-begins name 44 _ k h refl refl

-- ---- lists of places

-- places that are small
abbrev Small : List ℕ → Type 0
Small [] = Unit {0}
Small (p ∷ places) = (p ≤ 25) × Small places

-- a place is kept or not
kept-small : (kept : Bool) (p : ℕ) (places : List ℕ) → p ≤ 25 → Small places → Small (cond kept (p ∷ places) places)
kept-small true p places h k = (h, k)
kept-small false p places h k = k

-- of small places those are small that are kept
some-small : (test : ℕ → Bool) (a n : ℕ) → a + n ≤ 26 → Small (filter test (range_with_len a n))
some-small test a zero h = tt
some-small test a (suc n) h = kept-small (test a) a (filter test (range_with_len (a + 1) n)) (omega (arith, h))
    (some-small test (a + 1) n (omega (arith, h)))

-- the places that are listed are small
listed-small : (c : Checkers) (w : Listed) → Small (listed c w 24)
unfolding listed
listed-small c w = some-small (is_listed c w) 1 24 (omega arith)

-- numbers behind commas
behind-plain : (d : Direction) (s : Side) (places : List ℕ) → Small places
    → lacks 10 (flat_map (λ p. codes ", " ++ place_name d s p) places) ≡ true
behind-plain d s [] h = refl
behind-plain d s (p ∷ places) h =
    lacks-append 10 (codes ", " ++ place_name d s p) (flat_map (λ p. codes ", " ++ place_name d s p) places)
    (lacks-append 10 (codes ", ") (place_name d s p) refl (place-plain d s p h.0)) (behind-plain d s places h.1)

-- the numbers of places
numbers-plain : (d : Direction) (s : Side) (places : List ℕ) → Small places → lacks 10 (numbers d s places) ≡ true
unfolding numbers joined
numbers-plain d s [] h = refl
numbers-plain d s (p ∷ places) h =
    lacks-append 10 (place_name d s p) (flat_map (λ p. codes ", " ++ place_name d s p) places)
    (place-plain d s p h.0) (behind-plain d s places h.1)

-- of a board
places-plain : (d : Direction) (c : Checkers) (w : Listed) → lacks 10 (numbers_of d c w) ≡ true
places-plain d c w = numbers-plain d (counted_by w) (listed c w 24) (listed-small c w)

-- the row of the places that are held
pub held-is : (d : Direction) (c : Checkers) → IsRow (held_row d c)
unfolding held_row
held-is d c = record {
  plain = lacks-append 10 (codes "Held against you: ") (numbers_of d c L.Held ++ codes ".") refl
      (lacks-append 10 (numbers_of d c L.Held) (codes ".") (places-plain d c L.Held) refl);
  begins = refl;
}

-- the same with a name
pub held_named-is : (d : Direction) (c : Checkers) (player : List ℕ) → lacks 10 player ≡ true
    → IsRow (held_named d c player)
unfolding held_named
held_named-is d c player h = record {
  plain = lacks-append 10 (codes "Held against ") (player ++ (codes ": " ++ (numbers_of d c L.Held ++ codes "."))) refl
      (lacks-append 10 player (codes ": " ++ (numbers_of d c L.Held ++ codes ".")) h
      (lacks-append 10 (codes ": ") (numbers_of d c L.Held ++ codes ".") refl
      (lacks-append 10 (numbers_of d c L.Held) (codes ".") (places-plain d c L.Held) refl)));
  begins = refl;
}

-- the blots of a side
blots-plain : (d : Direction) (c : Checkers) (w : Listed) (name words : List ℕ) → lacks 10 name ≡ true
    → lacks 10 words ≡ true → lacks 10 (blots_of d c w name words) ≡ true
unfolding blots_of
blots-plain d c w name words h k =
    lacks-append 10 name (words ++ numbers_of d c w) h
    (lacks-append 10 words (numbers_of d c w) k (places-plain d c w))

-- of both
both-is : (own other : List ℕ) → lacks 10 own ≡ true → lacks 10 other ≡ true → IsRow (both_blots own other)
both-is own other h k = record {
  plain = lacks-append 10 (codes "Blots: ") (own ++ (codes "; " ++ (other ++ codes "."))) refl
      (lacks-append 10 own (codes "; " ++ (other ++ codes ".")) h
      (lacks-append 10 (codes "; ") (other ++ codes ".") refl (lacks-append 10 other (codes ".") k refl)));
  begins = refl;
}

-- the row of the blots
pub blots-is : (d : Direction) (c : Checkers) (opponent : List ℕ) → lacks 10 opponent ≡ true
    → IsRow (blots_row d c opponent)
unfolding blots_row
blots-is d c opponent h =
    both-is (blots_of d c L.OwnBlots (codes "yours") (codes " ")) (blots_of d c L.OtherBlots opponent (codes "'s "))
    (blots-plain d c L.OwnBlots (codes "yours") (codes " ") refl refl)
    (blots-plain d c L.OtherBlots opponent (codes "'s ") h refl)

-- the same with both names
pub blots_named-is : (d : Direction) (c : Checkers) (player opponent : List ℕ) → lacks 10 player ≡ true
    → lacks 10 opponent ≡ true → IsRow (blots_named d c player opponent)
unfolding blots_named
blots_named-is d c player opponent h k =
    both-is (blots_of d c L.OwnBlots player (codes "'s ")) (blots_of d c L.OtherBlots opponent (codes "'s "))
    (blots-plain d c L.OwnBlots player (codes "'s ") h refl)
    (blots-plain d c L.OtherBlots opponent (codes "'s ") k refl)
