-- What a text of the server says of the match (the project's own).
use Rattle.std.specs.Prelude.{◌≡◌, ◌≢◌, ◌⊎◌, ◌++◌, ℕ, Bool, true, false, List, [], All}
use Rattle.std.specs.Borrow.{Bor}
use Rattle.bstr.specs.Text.{Contains}
use Rattle.fibs_fields.specs.Name.{is_name}
use Rattle.fibs_position.specs.First.{IsFirst}
use Rattle.fibs_events.specs.declared.told.Deed.{Deed}
use Rattle.fibs_events.specs.declared.told.Report.{Report}
use Rattle.fibs_events.specs.declared.told.Told.{Told}
use Rattle.fibs_events.specs.declared.told.Told.TheVariants as T

-- the name of a player, or none: what a server calls a name may have bytes that a terminal obeys
abbrev pub IsNameOrNone : List ℕ → Type 0
IsNameOrNone name = (name ≡ []) ⊎ (is_name name ≡ true)

-- a text says something of what the user waits for, and has the name of a player, or none
pub record IsTold (report : Report) : Type 0 where
  pub something : report.told ≢ T.Else
  pub of : IsNameOrNone report.name.now

-- what counts only if the text names the opponent
abbrev pub is_of_opponent : Told → Bool
is_of_opponent T.Declined = true
is_of_opponent T.Taken = true
is_of_opponent T.Doubles = true
is_of_opponent T.Resigns = true
is_of_opponent T.Plays = true
is_of_opponent told = false

-- a shape of texts: how they begin, what they contain after that, how they end, what they say, and what has happened
-- by them
abbrev pub Shape : Type 0
Shape = Bor (List ℕ) × Bor (List ℕ) × Bor (List ℕ) × Told × Deed

-- a text has a shape, and this follows how it begins
pub record HasShape (text : List ℕ) (shape : Shape) (rest : List ℕ) : Type 0 where
  pub begins : text ≡ shape.0.now ++ rest
  pub contains : Contains rest shape.1.now
  pub ends : (front : List ℕ) × (rest ≡ front ++ shape.2.now)

-- the same, whatever follows
abbrev pub IsShaped : List ℕ → Shape → Type 0
IsShaped text shape = (rest : List ℕ) × HasShape text shape rest

-- a text has none of these shapes
abbrev pub HasNone : List ℕ → List Shape → Type 0
HasNone text shapes = All (λ shape. ¬ IsShaped text shape) shapes

-- the first of these shapes that a text has says this, and this follows how it begins
pub record HasFirst (text : List ℕ) (shapes : List Shape) (told : Told) (deed : Deed) (rest : List ℕ) : Type 0 where
  pub shape : Shape
  pub first : IsFirst (IsShaped text) shapes shape
  pub has : HasShape text shape rest
  pub says : told ≡ shape.3
  pub happens : deed ≡ shape.4
