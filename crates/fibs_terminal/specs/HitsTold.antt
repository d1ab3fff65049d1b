-- What a terminal tells of the checkers that were hit between two boards of a game (the project's own).
use Rattle.std.specs.Prelude.{◌≡◌, ◌++◌, ◌||◌, ◌&&◌, ℕ, nat_lt, not, Bool, true, false, List, [], codes, slice_index, take, if◌then◌else◌}
use Rattle.fibs_fields.specs.Board.{BoardFields}
use Rattle.fibs_rules.specs.Hop.{Hop}
use Rattle.fibs_rules.specs.PlayValue.{hops_of}
use Rattle.fibs_position.specs.DirectionOf.{direction_of}
use Rattle.fibs_position.specs.NumbersOf.{counted}
use Rattle.fibs_position.specs.PositionValue.{position_of}
use Rattle.fibs_position.specs.declared.numbers.Numbers.{Numbers}
use Rattle.fibs_advice.specs.Hits.{hit_on, hit_row}
use Rattle.fibs_advice.specs.declared.hits.Roller.{Roller}
use Rattle.fibs_events.specs.Played.{IsPlayed}
use Rattle.fibs_terminal.specs.declared.story.hits.ToldHits.{ToldHits}
use Rattle.fibs_terminal.specs.declared.story.hits.ToldHits.TheVariants as told
use Rattle.fibs_terminal.specs.Turns.{begins_anew, seen_by}

-- the user's checkers on the bar
abbrev pub own_bar : BoardFields → ℕ
own_bar b = slice_index (position_of b).standing.checkers.own 25

-- the opponent's
abbrev pub other_bar : BoardFields → ℕ
other_bar b = slice_index (position_of b).standing.checkers.other 0

-- the row of what a play hits, in the numbers that the user reads
abbrev pub row_of_hits : Numbers → Roller → BoardFields → List Hop → BoardFields → List ℕ
row_of_hits numbers roller before steps after =
    hit_row roller after.opponent (counted numbers (direction_of after))
    (hit_on roller (position_of (seen_by roller before)).standing.checkers steps 24)

-- the row that the user was hit, if he was
abbrev pub own_hit : Bool → List ℕ
own_hit true = codes "You were hit since the last board.\n"
own_hit false = []

-- without a play only this is known: who has more checkers on the bar was hit
abbrev pub own_row : BoardFields → BoardFields → List ℕ
own_row before after = own_hit (nat_lt (own_bar before) (own_bar after))

-- the same of the opponent
abbrev pub other_row : BoardFields → BoardFields → List ℕ
other_row before after =
    if nat_lt (other_bar before) (other_bar after)
    then take 24 after.opponent ++ codes " was hit since the last board.\n"
    else []

-- what is told of two boards of a game: nothing; who was hit; or the hits of a play, which leads from one to the other
abbrev pub TellsHits : ToldHits → Numbers → BoardFields → BoardFields → List ℕ → List ℕ → Type 0
TellsHits told.Nothing numbers before after old new = new ≡ old
TellsHits told.Who numbers before after old new = new ≡ old ++ (own_row before after ++ other_row before after)
TellsHits (told.Of roller play) numbers before after old new =
    IsPlayed (seen_by roller before) (hops_of play) (seen_by roller after)
    × (new ≡ old ++ row_of_hits numbers roller before (hops_of play) after)

-- a side has more checkers on the bar than on the board before: so one was hit
abbrev pub is_more_on_bar : BoardFields → BoardFields → Bool
is_more_on_bar before after =
    nat_lt (own_bar before) (own_bar after) || nat_lt (other_bar before) (other_bar after)

-- something is told of two boards: they are of one game, and a side has more checkers on the bar
abbrev pub tells_hits : BoardFields → BoardFields → Bool
tells_hits before after = not (begins_anew before after) && is_more_on_bar before after

-- something was told
abbrev pub has_told : ToldHits → Bool
has_told told.Nothing = false
has_told hits = true
