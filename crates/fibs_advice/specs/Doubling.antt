-- Why the user may not double on a board (rules of backgammon; FIBS board style 3).
use Rattle.std.specs.Prelude.{◌≡◌, ◌⊎◌, ◌++◌, ◌&&◌, ℕ, ℤ, pos, int_le, List, codes, Bool, not, true, false}
use Rattle.std.specs.Ordering.{int_eq}
use Rattle.fibs_fields.specs.Board.{BoardFields, field_of}
use Rattle.fibs_position.specs.Crawford.{is_crawford}
use Rattle.fibs_position.specs.Phases.{phase_of}
use Rattle.fibs_position.specs.declared.phase.Phase.{Phase}
use Rattle.fibs_position.specs.declared.phase.Phase.TheVariants as P
use Rattle.fibs_advice.specs.declared.doubling.NoDouble.{NoDouble}
use Rattle.fibs_advice.specs.declared.doubling.NoDouble.TheVariants as N

-- the cube is the opponent's, by who may double
abbrev pub is_his : ℤ → ℤ → ℤ → Bool
is_his may other_may cube = int_eq may (pos 0) && (int_eq other_may (pos 1) && int_le (pos 2) cube)

-- a reason holds in a phase, if it is one of the phase
abbrev pub holds_in : Phase → NoDouble → Bool
holds_in P.Over N.Over = true
holds_in P.AnswerDouble N.Doubled = true
holds_in P.OpponentActs N.HisTurn = true
holds_in P.Move N.Rolled = true
holds_in P.Passing N.Rolled = true
holds_in phase why = false

-- a reason holds of a board
abbrev pub holds_of : BoardFields → NoDouble → Bool
holds_of b N.OnePoint = int_eq (field_of b 4) (pos 1)
holds_of b N.Crawford = is_crawford b
holds_of b N.HisCube = is_his (field_of b 39) (field_of b 40) (field_of b 38)
holds_of b N.Highest = not (int_le (field_of b 38) (pos 524288))
holds_of b N.Unsaid = int_eq (field_of b 39) (pos 0)
holds_of b why = holds_in (phase_of b) why

-- the board allows a double: the user has not rolled, he may double, and the cube can be turned
pub record AllowsDouble (b : BoardFields) : Type 0 where
  pub early : phase_of b ≡ P.RollOrDouble
  pub may : int_eq (field_of b 39) (pos 0) ≡ false
  pub room : int_le (field_of b 38) (pos 524288) ≡ true

-- how it is said
abbrev pub no_double_said : NoDouble → List ℕ
no_double_said N.Over = codes "The game is over."
no_double_said N.OnePoint = codes "In a match to 1 nobody doubles."
no_double_said N.Crawford = codes "This is the Crawford game: nobody doubles in it."
no_double_said N.Doubled = codes "You are offered a double yourself."
no_double_said N.HisTurn = codes "It is your opponent's turn."
no_double_said N.Rolled = codes "You have rolled: one doubles before the roll."
no_double_said N.HisCube = codes "The cube is your opponent's: only he may double."
no_double_said N.Highest = codes "The cube goes no higher."
no_double_said N.Unsaid = codes "By this board you may not double."

-- a reason is named that holds of a board, or none, and then the board allows a double
pub record NamesReason (b : BoardFields) (before after : List ℕ) : Type 0 where
  pub why : NoDouble
  pub holds : holds_of b why ≡ true
  pub named : after ≡ before ++ no_double_said why

-- so of every board
abbrev pub NamesNoDouble : BoardFields → List ℕ → List ℕ → Type 0
NamesNoDouble b before after = NamesReason b before after ⊎ (AllowsDouble b × (after ≡ before))
