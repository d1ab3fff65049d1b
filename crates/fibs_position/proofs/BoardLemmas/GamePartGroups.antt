-- The game part, group by group.
use Rattle.std.proofs.Common.{◌≡◌, ℕ, ◌++◌, List, take, drop, ap, ◌∙◌}
use Rattle.std.specs.Prelude.{ℤ, map}
use Rattle.fibs_fields.specs.Board.{BoardFields, field_of}
use Rattle.fibs_position.specs.GamePart.{GamePart, Agree, from_to, game_fields, game_part}

-- the numbers of the fields from the first to the last
abbrev group : BoardFields → ℕ → ℕ → List ℤ
group b first last = map (field_of b) (from_to first last)

-- four lists, each equal to another
joined : (v w x y v' w' x' y' : List ℤ) → v ≡ v' → w ≡ w' → x ≡ x' → y ≡ y'
    → ((v ++ w) ++ x) ++ y ≡ ((v' ++ w') ++ x') ++ y'
joined v w x y v' w' x' y' d e f g = cc

-- boards with the same groups have one game part
pub same_from_groups : (a b : BoardFields) → a.opponent ≡ b.opponent → Agree a b 4 6 → Agree a b 8 31 → Agree a b 33 43
    → Agree a b 46 47 → game_part a ≡ game_part b
unfolding game_fields
same_from_groups a b name match_score places turn off =
    let numbers =
    joined (group a 4 6) (group a 8 31) (group a 33 43) (group a 46 47) (group b 4 6) (group b 8 31) (group b 33 43)
    (group b 46 47) match_score places turn off in
    let make : List ℕ → List ℤ → GamePart = λ o n. record { opponent = o; numbers = n } in
    ap (λ o. make o (game_part a).numbers) name ∙ ap (make b.opponent) numbers

-- boards with one game part have the same groups
pub groups_from_same : (a b : BoardFields) → game_part a ≡ game_part b
    → (a.opponent ≡ b.opponent) × (Agree a b 4 6 × Agree a b 8 31 × Agree a b 33 43 × Agree a b 46 47)
unfolding game_fields
groups_from_same a b same =
    let numbers = ap (λ (g : GamePart). g.numbers) same in (
      ap (λ (g : GamePart). g.opponent) same,
      (
        ap (take 3) numbers,
        ap (λ (l : List ℤ). take 24 (drop 3 l)) numbers,
        ap (λ (l : List ℤ). take 11 (drop 27 l)) numbers,
        ap (λ (l : List ℤ). drop 38 l) numbers,
      ),
    )
