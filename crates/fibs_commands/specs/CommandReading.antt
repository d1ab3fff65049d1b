-- Which decision a command is: as a relation, and as a function by the words between its spaces.
use Rattle.std.specs.Prelude.{◌≡◌, ◌==◌, ◌+◌, ◌&&◌, ℕ, List, [], ◌∷◌, ◌++◌, Option, None, Some, cond, codes, length, nat_le, nat_lt, option_map}
use Rattle.std.specs.List.{slice_split}
use Rattle.std.specs.Str.{bytes_eq}
use Rattle.fibs_fields.specs.Decimal.{decimal_up_to}
use Rattle.fibs_fields.specs.Split.{before, after}
use Rattle.fibs_rules.specs.Hop.{Hop}
use Rattle.fibs_position.specs.DirectionOf.{line_place}
use Rattle.fibs_position.specs.DecisionValue.{DecisionValue, roll, double, accept, reject, move, resign, IsDecision}
use Rattle.fibs_position.specs.declared.direction.Direction.{Direction}
use Rattle.fibs_position.specs.declared.stake.Stake.{Stake}
use Rattle.fibs_position.specs.declared.stake.Stake.TheVariants.{Normal, Gammon, Backgammon}
use Rattle.fibs_commands.specs.Commands.{command_of}

-- the text is this decision's command
pub record ReadCommand (text : List ℕ) (direction : Direction) (d : DecisionValue) : Type 0 where
  pub valid : IsDecision d
  pub text_is : text ≡ command_of direction d

-- a place by the server's number, which is not 0
abbrev pub numbered_place : Direction → Option ℕ → Option ℕ
numbered_place direction None = None
numbered_place direction (Some number) = cond (number == 0) None (Some (line_place direction number))

-- the place of this name: the bar, off, or one of the places 1 to 24
unfoldable pub place_in : Direction → List ℕ → Option ℕ
place_in direction name =
    cond (bytes_eq name (codes "bar")) (Some 25)
    (cond (bytes_eq name (codes "off")) (Some 0) (numbered_place direction (decimal_up_to 24 name)))

-- the place of which there is a name, seen in a direction
abbrev pub place_after : Direction → Option (List ℕ) → Option ℕ
place_after direction None = None
place_after direction (Some name) = place_in direction name

-- a step comes from a place other than off, and goes to one other than the bar
abbrev pub step_between : Option ℕ → Option ℕ → Option Hop
step_between None target = None
step_between (Some source) None = None
step_between (Some source) (Some target) =
    cond (nat_lt 0 source && nat_le target 24) (Some (record { source = source; target = target })) None

-- the step of a word: the names of two places around its first dash
unfoldable pub step_in : Direction → List ℕ → Option Hop
step_in direction word = step_between (place_in direction (before 45 word)) (place_after direction (after 45 word))

-- a step before later ones, if there are both
abbrev pub step_then : Option Hop → Option (List Hop) → Option (List Hop)
step_then None steps = None
step_then (Some step) steps = option_map (λ later. step ∷ later) steps

-- the steps of some words, if each word is one
abbrev pub steps_in : Direction → List (List ℕ) → Option (List Hop)
steps_in direction [] = Some []
steps_in direction (word ∷ words) = step_then (step_in direction word) (steps_in direction words)

-- a play goes on by the steps of some words, which are at most four with those before
unfoldable pub play_from : Direction → List Hop → List (List ℕ) → Option (List Hop)
play_from direction steps words =
    cond (nat_le (length steps + length words) 4) (option_map (λ later. steps ++ later) (steps_in direction words)) None

-- the words between the spaces of what follows a space, if there is one
abbrev pub words_after : Option (List ℕ) → List (List ℕ)
words_after None = []
words_after (Some rest) = slice_split (λ b. b == 32) rest

-- the stake of a letter
unfoldable pub stake_in : List ℕ → Option Stake
stake_in letter =
    cond (bytes_eq letter (codes "n")) (Some Normal)
    (cond (bytes_eq letter (codes "g")) (Some Gammon)
    (cond (bytes_eq letter (codes "b")) (Some Backgammon) None))

-- the stake of what follows a space, if there is one
abbrev pub stake_after : Option (List ℕ) → Option Stake
stake_after None = None
stake_after (Some rest) = stake_in rest

-- the decision of one word
unfoldable pub turn_in : List ℕ → Option DecisionValue
turn_in word =
    cond (bytes_eq word (codes "roll")) (Some roll)
    (cond (bytes_eq word (codes "double")) (Some double)
    (cond (bytes_eq word (codes "accept")) (Some accept)
    (cond (bytes_eq word (codes "reject")) (Some reject) None)))

-- the decision of a word that nothing follows
abbrev pub turn_alone : List ℕ → Option (List ℕ) → Option DecisionValue
turn_alone word None = turn_in word
turn_alone word (Some rest) = None

-- the decision of a first word and of what follows the space after it
unfoldable pub decision_in : Direction → List ℕ → Option (List ℕ) → Option DecisionValue
decision_in direction word rest =
    cond (bytes_eq word (codes "move")) (option_map (λ steps. move steps) (play_from direction [] (words_after rest)))
    (cond (bytes_eq word (codes "resign")) (option_map (λ stake. resign stake) (stake_after rest))
    (turn_alone word rest))

-- the decision of a command
unfoldable pub read_command : Direction → List ℕ → Option DecisionValue
read_command direction text = decision_in direction (before 32 text) (after 32 text)
