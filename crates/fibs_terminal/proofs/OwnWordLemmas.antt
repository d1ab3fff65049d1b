-- Which word of the terminal a word is.
use Rattle.std.proofs.Common.{◌≡◌, ◌≢◌, ◌∷◌, ◌+◌, ◌<◌, ◌≤◌, ℕ, true, false, List, [], Bor, length, map, take, take_all, get_or, Option, Some, None, refl, sym, ap, subst, ◌∙◌}
use Rattle.std.specs.List.{All, AllByRecursion, find}
use Rattle.std.specs.Str.{bytes_eq}
use Rattle.std.proofs.lemmas.Bool.{false≢true}
use Rattle.std.proofs.lemmas.List.Elements.{All-from_recursion, All-more, All-nil, recursion_from_All}
use Rattle.std.proofs.lemmas.Slice.Eq.{bytes_eq-Decides}
use Rattle.fibs_terminal.specs.OwnWords.{name_of}
use Rattle.fibs_terminal.specs.declared.commands.Here.{Here}
use Rattle.fibs_terminal.specs.declared.commands.Here.TheVariants as H

-- all that the terminal answers itself, in the order of its table
abbrev pub all_here : List Here
all_here = H.Help ∷ H.Plays ∷ H.Words ∷ H.Players ∷ H.Gag ∷ H.Ungag ∷ H.Quiet ∷ H.Loud ∷ H.Arrivals ∷ H.Talk ∷ H.Moves
    ∷ H.Matches ∷ H.Reconnect ∷ H.Stay ∷ H.Fix ∷ H.Columns ∷ H.Rows ∷ H.Board ∷ H.Numbers ∷ []

-- the first of them that is so spelled
abbrev here_named : List ℕ → Option Here
here_named word = find (λ (here : Here). bytes_eq word (name_of here)) all_here

-- each is found by its name
named_back : (here : Here) → here_named (name_of here) ≡ Some here
named_back H.Help = refl
named_back H.Plays = refl
named_back H.Words = refl
named_back H.Players = refl
named_back H.Gag = refl
named_back H.Ungag = refl
named_back H.Quiet = refl
named_back H.Loud = refl
named_back H.Arrivals = refl
named_back H.Talk = refl
named_back H.Moves = refl
named_back H.Matches = refl
named_back H.Reconnect = refl
named_back H.Stay = refl
named_back H.Fix = refl
named_back H.Columns = refl
named_back H.Rows = refl
named_back H.Board = refl
named_back H.Numbers = refl

-- so no two have one name
pub same_here : (word : List ℕ) (a b : Here) → word ≡ name_of a → word ≡ name_of b → Some a ≡ Some b
same_here word a b is_a is_b = sym (named_back a) ∙ ap here_named (sym is_a ∙ is_b) ∙ named_back b

-- a row of it has the name of its word
abbrev pub IsNamed : Bor (List ℕ) × Here → Type 0
IsNamed row = row.0.now ≡ name_of row.1

-- all rows have
abbrev pub AreNamed : List (Bor (List ℕ) × Here) → Type 0
AreNamed rows = map (λ (row : Bor (List ℕ) × Here). row.0.now) rows
    ≡ map (λ (row : Bor (List ℕ) × Here). name_of row.1) rows

-- equal lists begin with equal words
same_first : (x y : List ℕ) (xs ys : List (List ℕ)) → x ∷ xs ≡ y ∷ ys → x ≡ y
same_first x y xs ys same = cc

-- and what follows these is equal
same_rest : (x y : List ℕ) (xs ys : List (List ℕ)) → x ∷ xs ≡ y ∷ ys → xs ≡ ys
same_rest x y xs ys same = cc

-- so each row has its name
each_named : (rows : List (Bor (List ℕ) × Here)) → AreNamed rows → AllByRecursion IsNamed rows
each_named [] same = tt
each_named (row ∷ rows) same = (same_first _ _ _ _ same, each_named rows (same_rest _ _ _ _ same))

-- what is true of all of them is true of each
each_here : (P : Here → Type 0) → AllByRecursion P all_here → (here : Here) → P here
each_here P p H.Help = p.0
each_here P p H.Plays = p.1.0
each_here P p H.Words = p.1.1.0
each_here P p H.Players = p.1.1.1.0
each_here P p H.Gag = p.1.1.1.1.0
each_here P p H.Ungag = p.1.1.1.1.1.0
each_here P p H.Quiet = p.1.1.1.1.1.1.0
each_here P p H.Loud = p.1.1.1.1.1.1.1.0
each_here P p H.Arrivals = p.1.1.1.1.1.1.1.1.0
each_here P p H.Talk = p.1.1.1.1.1.1.1.1.1.0
each_here P p H.Moves = p.1.1.1.1.1.1.1.1.1.1.0
each_here P p H.Matches = p.1.1.1.1.1.1.1.1.1.1.1.0
each_here P p H.Reconnect = p.1.1.1.1.1.1.1.1.1.1.1.1.0
each_here P p H.Stay = p.1.1.1.1.1.1.1.1.1.1.1.1.1.0
each_here P p H.Fix = p.1.1.1.1.1.1.1.1.1.1.1.1.1.1.0
each_here P p H.Columns = p.1.1.1.1.1.1.1.1.1.1.1.1.1.1.1.0
each_here P p H.Rows = p.1.1.1.1.1.1.1.1.1.1.1.1.1.1.1.1.0
each_here P p H.Board = p.1.1.1.1.1.1.1.1.1.1.1.1.1.1.1.1.1.0
each_here P p H.Numbers = p.1.1.1.1.1.1.1.1.1.1.1.1.1.1.1.1.1.1.0

-- none of the first rows has this name
pub record Passes (word : List ℕ) (rows : List (Bor (List ℕ) × Here)) (i : ℕ) : Type 0 where
  pub others : All (λ (row : Bor (List ℕ) × Here). row.0.now ≢ word) (take i rows)

-- nor has the first of them
pub passes_none : (word : List ℕ) (rows : List (Bor (List ℕ) × Here)) → Passes word rows 0
passes_none word rows = record { others = All-nil (λ (row : Bor (List ℕ) × Here). row.0.now ≢ word) }

-- the word of a row whose name it is
pub of_row : (word : List ℕ) (rows : List (Bor (List ℕ) × Here)) (i : ℕ) (d : Bor (List ℕ) × Here)
    → Passes word rows i → bytes_eq (get_or rows i d).0.now word ≡ true → i < length rows → AreNamed rows
    → word ≡ name_of (get_or rows i d).1
of_row word rows i d before is within named = sym ((bytes_eq-Decides (get_or rows i d).0.now word).0 is)
    ∙ All-from_recursion IsNamed rows (each_named rows named) i d within

-- it is no other one
pub only_row : (word : List ℕ) (rows : List (Bor (List ℕ) × Here)) (i : ℕ) (d : Bor (List ℕ) × Here)
    → Passes word rows i → bytes_eq (get_or rows i d).0.now word ≡ true → i < length rows → AreNamed rows
    → (here : Here) → word ≡ name_of here → Some (get_or rows i d).1 ≡ Some here
only_row word rows i d before is within named here same =
    same_here word (get_or rows i d).1 here (of_row word rows i d before is within named) same

-- a row of another name is passed over
pub next_row : (word : List ℕ) (rows : List (Bor (List ℕ) × Here)) (i : ℕ) (d : Bor (List ℕ) × Here)
    → Passes word rows i → bytes_eq (get_or rows i d).0.now word ≡ false → i < length rows → Passes word rows (i + 1)
next_row word rows i d before other within = record {
  others = All-more (λ (row : Bor (List ℕ) × Here). row.0.now ≢ word) rows i d within before.others
      (λ same. false≢true (sym other ∙ (bytes_eq-Decides (get_or rows i d).0.now word).1 same));
}

-- if no row has the name, no word of the table has it
none_named : (word : List ℕ) (rows : List (Bor (List ℕ) × Here)) → AllByRecursion IsNamed rows
    → AllByRecursion (λ (row : Bor (List ℕ) × Here). row.0.now ≢ word) rows
    → AllByRecursion (λ (here : Here). name_of here ≢ word) (map (λ (row : Bor (List ℕ) × Here). row.1) rows)
none_named word [] named others = tt
none_named word (row ∷ rows) named others =
    (λ same. others.0 (named.0 ∙ same), none_named word rows named.1 others.1)

-- so it is none of them
pub no_row : (word : List ℕ) (rows : List (Bor (List ℕ) × Here)) (i : ℕ) → Passes word rows i → length rows ≤ i
    → AreNamed rows → map (λ (row : Bor (List ℕ) × Here). row.1) rows ≡ all_here
    → (here : Here) → word ≡ name_of here → None ≡ Some here
no_row word rows i before all named heres here is =
    let none = recursion_from_All (λ (row : Bor (List ℕ) × Here). row.0.now ≢ word) rows
    (subst (λ (rs : List (Bor (List ℕ) × Here)). All (λ (row : Bor (List ℕ) × Here). row.0.now ≢ word) rs)
    (take_all i rows all) before.others) in
    let each = subst (AllByRecursion (λ (h : Here). name_of h ≢ word)) heres
    (none_named word rows (each_named rows named) none) in
    absurd (each_here (λ (h : Here). name_of h ≢ word) each here (sym is))
