-- A text by which the server tells a move, as `bob moves 12-15 15-18 .` (FIBS), and the same in the user's numbers; and
-- a command that was sent, with its steps in those (the project's own).
use Rattle.std.specs.Prelude.{◌++◌, ◌&&◌, ◌||◌, ℕ, Bool, false, nat_eq, nat_lt, List, [], ◌∷◌, Option, Some, None, codes}
use Rattle.std.specs.List.{list_any, starts_with}
use Rattle.std.specs.Str.{bytes_eq}
use Rattle.fibs_fields.specs.Decimal.{decimal_up_to}
use Rattle.fibs_fields.specs.Split.{before, after}
use Rattle.fibs_rules.specs.Hop.{Hop}
use Rattle.fibs_position.specs.DecisionValue.{DecisionValue, move}
use Rattle.fibs_position.specs.NumbersOf.{counted}
use Rattle.fibs_position.specs.declared.direction.Direction.{Direction}
use Rattle.fibs_position.specs.declared.direction.Direction.TheVariants.{Down, Up}
use Rattle.fibs_position.specs.declared.numbers.Numbers.{Numbers}
use Rattle.fibs_commands.specs.CommandReading.{read_command}
use Rattle.fibs_commands.specs.Commands.{command_of, steps_text}
use Rattle.fibs_advice.specs.Spelling.{between}

-- who moves, and each step, by numbers by which the user goes this way: a place is one place, whoever comes to it
abbrev pub moved_text : Direction → List ℕ → List Hop → List ℕ
moved_text way name steps = name ++ (codes " moves" ++ (steps_text way steps ++ codes " ."))

-- the steps of a move in the numbers that the user reads, behind a command in those of the server
unfoldable pub beside_text : List Hop → List ℕ
beside_text steps = codes " (in your numbers" ++ (steps_text Down steps ++ codes ")")

-- they stand there if they differ: the user goes up by the server's numbers, and down by those that he reads
abbrev pub beside_in : Direction → Direction → Option DecisionValue → List ℕ
beside_in Up Down (Some (move (step ∷ steps))) = beside_text (step ∷ steps)
beside_in direction way d = []

-- a command that was sent from a board on which the user goes this way
abbrev pub sent_text : Numbers → Direction → List ℕ → List ℕ
sent_text numbers direction command =
    command ++ beside_in direction (counted numbers direction) (read_command direction command)

-- a line, or the decision that it is as the user types it
abbrev pub spelled_in : Direction → List ℕ → Option DecisionValue → List ℕ
spelled_in way line None = line
spelled_in way line (Some d) = command_of way d

-- a number of a place
abbrev pub is_number : Option ℕ → Bool
is_number None = false
is_number (Some number) = nat_lt 0 number

-- a word names a place: the bar, off, or a number from 1 to 24
abbrev pub names_place : List ℕ → Bool
names_place name = bytes_eq name (codes "bar") || (bytes_eq name (codes "off") || is_number (decimal_up_to 24 name))

-- something follows, which names one
abbrev pub names_target : Option (List ℕ) → Bool
names_target None = false
names_target (Some name) = names_place name

-- a word names two places, as a step does
abbrev pub names_step : List ℕ → Bool
names_step word = names_place (before 45 word) && names_target (after 45 word)

-- a word speaks of moving: `move`, `moves`, `moved`
abbrev pub says_move : List ℕ → Bool
says_move word = starts_with nat_eq word (codes "move")

-- a text, whose words are between single spaces, names the places of a step
abbrev pub has_step : List ℕ → Bool
has_step text = list_any names_step (between 32 text)

-- a text speaks of moving
abbrev pub has_move : List ℕ → Bool
has_move text = list_any says_move (between 32 text)

-- it does, and names the places of a step
abbrev pub names_steps : List ℕ → Bool
names_steps text = has_move text && has_step text

-- what was sent, in the numbers that the user reads alone
abbrev pub sent_told : Numbers → Direction → List ℕ → List ℕ
sent_told numbers direction command =
    spelled_in (counted numbers direction) command (read_command direction command)
