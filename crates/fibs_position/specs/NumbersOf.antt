-- Whose numbers places have at a terminal: the server's, or the player's own (the project's own).
use Rattle.std.specs.Prelude.{◌≡◌, ◌≤◌, ℕ}
use Rattle.fibs_position.specs.DirectionOf.{line_place}
use Rattle.fibs_position.specs.declared.direction.Direction.{Direction}
use Rattle.fibs_position.specs.declared.direction.Direction.TheVariants.{Down}
use Rattle.fibs_position.specs.declared.numbers.Numbers.{Numbers}
use Rattle.fibs_position.specs.declared.numbers.Numbers.TheVariants.{TheServers, TheOwn}

-- which way a player goes by these numbers, who goes this way by those of the board line: by his own he goes down
abbrev pub counted : Numbers → Direction → Direction
counted TheServers direction = direction
counted TheOwn direction = Down

-- the number that a place has, which the player counts so as to go down
abbrev pub number_of : Numbers → Direction → ℕ → ℕ
number_of numbers direction place = line_place (counted numbers direction) place

-- by the player's own numbers a place has its own number, which is 25 less the server's if he goes up by that
abbrev pub OwnNumbersAreTurned : Type 0
OwnNumbersAreTurned = (direction : Direction) (place : ℕ) → place ≤ 25
    → (number_of TheOwn direction place ≡ place)
    × (number_of TheOwn direction place ≡ line_place direction (number_of TheServers direction place))
