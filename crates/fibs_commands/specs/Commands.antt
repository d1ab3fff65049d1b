-- The commands by which a player decides, as the FIBS server reads them: `roll`, `double`, `accept`, `reject`, `move`
-- with a pair of places for each step, and `resign` with the letter of a stake.
use Rattle.std.specs.Prelude.{◌==◌, ◌++◌, ℕ, List, codes, decimal, if◌then◌else◌}
use Rattle.std.specs.List.{flat_map}
use Rattle.fibs_rules.specs.Hop.{Hop}
use Rattle.fibs_position.specs.DirectionOf.{line_place}
use Rattle.fibs_position.specs.DecisionValue.{DecisionValue, roll, double, accept, reject, move, resign}
use Rattle.fibs_position.specs.declared.direction.Direction.{Direction}
use Rattle.fibs_position.specs.declared.stake.Stake.{Stake}
use Rattle.fibs_position.specs.declared.stake.Stake.TheVariants.{Normal, Gammon, Backgammon}

-- a place in a command: the player's 25 is the bar and 0 is off, each other place has the server's number
abbrev pub place_text : Direction → ℕ → List ℕ
place_text direction place =
    if place == 25 then codes "bar"
    else if place == 0 then codes "off"
    else decimal (line_place direction place)

-- a step in a command: where the checker comes from, a dash, and where it goes
abbrev pub step_text : Direction → Hop → List ℕ
step_text direction step = place_text direction step.source ++ codes "-" ++ place_text direction step.target

-- each step after a space
abbrev pub steps_text : Direction → List Hop → List ℕ
steps_text direction = flat_map (λ step. codes " " ++ step_text direction step)

-- the letter of a stake
abbrev pub stake_text : Stake → List ℕ
stake_text Normal = codes "n"
stake_text Gammon = codes "g"
stake_text Backgammon = codes "b"

-- the command of a decision, without its line end
unfoldable pub command_of : Direction → DecisionValue → List ℕ
command_of direction roll = codes "roll"
command_of direction double = codes "double"
command_of direction accept = codes "accept"
command_of direction reject = codes "reject"
command_of direction (move steps) = codes "move" ++ steps_text direction steps
command_of direction (resign stake) = codes "resign " ++ stake_text stake
