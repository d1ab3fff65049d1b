-- What is given to a carrier.
use Rattle.std.specs.Prelude.{ℕ, List, [], ◌++◌}
use Rattle.fibs_model.specs.declared.carriers.carrier.Way.{Way}

-- one thing that is given to it
pub data Crossing : Type 0 where
  -- a connection is made
  connected : Crossing
  -- bytes go over it
  crossed : Way → List ℕ → Crossing
  -- it is closed
  closed : Crossing

-- A carrier that is given nothing may stay as it is, and what is given in parts is the whole.
pub record Joins {A : Type 0} (Carries : A → List Crossing → A → Type 0) : Type 0 where
  pub nothing : (a : A) → Carries a [] a
  pub joined : (a b c : A) (xs ys : List Crossing) → Carries a xs b → Carries b ys c → Carries a (xs ++ ys) c
