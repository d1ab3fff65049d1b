-- A move that the user types: which move `try` reads, and of which the broken rule is kept (the project's own).
use Rattle.std.specs.Prelude.{◌≡◌, ◌⊎◌, ◌++◌, ℕ, List, [], codes, Option, Some, None, IfSome, Result, IfOk}
use Rattle.fibs_fields.specs.Board.{BoardFields}
use Rattle.fibs_fields.specs.Split.{after}
use Rattle.fibs_game.specs.declared.refusal.Refusal.TheVariants.{IllegalPlay}
use Rattle.fibs_position.specs.DecisionValue.{DecisionValue, move}
use Rattle.fibs_position.specs.declared.numbers.Numbers.{Numbers}
use Rattle.fibs_rules.specs.Hop.{Hop}
use Rattle.fibs_session.specs.Calls.Standing.{ClientValue, StandsAfter}
use Rattle.fibs_session.specs.History.Machine.{Talk, answer_now, shown_now}
use Rattle.fibs_session.specs.Typing.{decided, typed_by, typed_decision, way_now}
use Rattle.fibs_advice.specs.BrokenRules.{SaysBroken}
use Rattle.fibs_advice.specs.Spelled.{small_line, word_spelled}
use Rattle.fibs_advice.specs.Spelling.{IsMeantBy, steps_shown}
use Rattle.fibs_advice.specs.Trials.{tried}
use Rattle.fibs_advice.specs.declared.trial.Trial.{Trial}
use Rattle.fibs_connect.specs.declared.wish.Wish.{Wish}
use Rattle.fibs_terminal.specs.Trying.{IsTry}

-- a rest of a line; nothing if there is none
abbrev pub rest_in : Option (List ℕ) → List ℕ
rest_in None = []
rest_in (Some rest) = rest

-- what follows the first word of a line
abbrev pub after_word : List ℕ → List ℕ
after_word line = rest_in (after 32 line)

-- the line that says the same as what follows `try`, in small letters
abbrev pub move_line : List ℕ → List ℕ
move_line rest = small_line (codes "move " ++ rest)

-- the play is meant by the steps that this line shows, by the numbers that the user reads
pub record ShowsPlay (t : Talk) (numbers : Numbers) (rest : List ℕ) (d : DecisionValue) : Type 0 where
  pub steps : List Hop
  pub play : List Hop
  pub shown : steps_shown (way_now numbers t) (move_line rest) ≡ Some steps
  pub meant : IsMeantBy t steps play
  pub is : d ≡ move play

-- the decision that is read in what follows `try`: the play of the steps that it shows; or what the line is as a
-- command by those numbers
abbrev pub IsTriedAs : Talk → Numbers → List ℕ → DecisionValue → Type 0
IsTriedAs t numbers rest d =
    ShowsPlay t numbers rest d ⊎ (decided (typed_by numbers t (word_spelled (move_line rest))) ≡ Some d)

-- no move is kept after `try`, or the one that is read in what follows it
abbrev pub TriesTyped : ClientValue → Numbers → List ℕ → Option Trial → Type 0
TriesTyped client numbers rest kept = IfSome kept (λ x. (t : Talk) → StandsAfter client t
    → IsTriedAs t numbers rest (tried x))

-- so after a line whose first word is `try`
abbrev pub AfterTry : {E : Type 0} → ClientValue → Numbers → List ℕ → Option Trial → Result Wish E → Type 0
AfterTry client numbers line kept result = IfOk result (λ wish. TriesTyped client numbers (after_word line) kept)

-- the move that is kept after it is the one that the user typed: so it is that which `go` sends
abbrev pub KeepsTyped : {E : Type 0} → ClientValue → Numbers → List ℕ → Option Trial → Result Wish E → Type 0
KeepsTyped client numbers line kept result = IsTry numbers client line → AfterTry client numbers line kept result

-- a line is a move by these numbers, which the client refuses as one against the rules, on the board that is shown
pub record IsAgainst (t : Talk) (numbers : Numbers) (line : List ℕ) (play : List Hop) (board : BoardFields)
    : Type 0 where
  pub typed : typed_by numbers t line ≡ typed_decision (move play)
  pub refused : answer_now t (move play) ≡ Some IllegalPlay
  pub shown : shown_now t ≡ Some board

-- what is named of such a move is kept of the line
pub record KeepsRule (t : Talk) (numbers : Numbers) (line : List ℕ) (old new : List ℕ) : Type 0 where
  pub play : List Hop
  pub board : BoardFields
  pub against : IsAgainst t numbers line play board
  pub said : SaysBroken numbers board play old new

-- of any other line nothing is
pub record KeepsNone (t : Talk) (numbers : Numbers) (line : List ℕ) (old new : List ℕ) : Type 0 where
  pub other : (play : List Hop) (board : BoardFields) → ¬ IsAgainst t numbers line play board
  pub same : new ≡ old

-- one of both
abbrev pub NotesRule : Talk → Numbers → List ℕ → List ℕ → List ℕ → Type 0
NotesRule t numbers line old new = KeepsNone t numbers line old new ⊎ KeepsRule t numbers line old new
