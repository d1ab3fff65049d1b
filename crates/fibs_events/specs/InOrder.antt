-- The events of what has happened by one line (the project's own).
use Rattle.std.specs.Prelude.{◌==◌, List, [], ◌∷◌, length, Option, option_map, if◌then◌else◌}
use Rattle.fibs_rules.specs.PlayValue.{hops_of}
use Rattle.fibs_events.specs.declared.event.Event.{Event}
use Rattle.fibs_events.specs.declared.event.Event.TheVariants as E
use Rattle.fibs_events.specs.declared.event.Offer.TheVariants as O
use Rattle.fibs_events.specs.declared.event.Side.{Side}
use Rattle.fibs_events.specs.declared.happened.Happened.{Happened}
use Rattle.fibs_events.specs.declared.happened.Rolled.{Rolled}
use Rattle.fibs_events.specs.declared.happened.Turned.{Turned}
use Rattle.fibs_events.specs.declared.happened.Won.{Won}
use Rattle.fibs_events.specs.declared.happened.WonMatch.{WonMatch}

-- a play; one of no step is that the side can't move
abbrev pub played_event : Turned → Event
played_event turned =
    if length (hops_of turned.play) == 0 then E.CannotMove turned.who else E.Played turned.who turned.play

-- a double
abbrev pub doubled_event : Side → Event
doubled_event who = E.Doubled who

-- a double that is accepted
abbrev pub accepted_event : Side → Event
accepted_event who = E.Accepted who O.Double

-- a roll
abbrev pub rolled_event : Rolled → Event
rolled_event rolled = E.Rolled rolled.who rolled.dice

-- the end of a game
abbrev pub won_event : Won → Event
won_event won = E.GameOver won.winner won.points won.worth

-- the end of a match
abbrev pub won_match_event : WonMatch → Event
won_match_event won = E.MatchOver won.winner won.length won.score

-- the events in the order in which they happened, with nothing between some of them
abbrev pub events_of : Happened → List (Option Event)
events_of h =
    h.said
    ∷ option_map played_event h.played
    ∷ option_map doubled_event h.doubled
    ∷ option_map accepted_event h.accepted
    ∷ option_map rolled_event h.rolled
    ∷ option_map won_event h.won
    ∷ option_map won_match_event h.won_match
    ∷ []
