use Rattle.std.proofs.Common.{◌∙◌, sym}
use Rattle.fibs_fields.specs.StoredBoard.{fields_of}
use Rattle.fibs_position.specs.GameOf.{game_of}
use Rattle.fibs_events.specs.Happenings.{NonePlayed, seen_by}
use Rattle.fibs_events.specs.Played.{NoneIsPlayed}
use Rattle.fibs_events.proofs.TurningLemmas.{if_ok_none_then, none_of_the_roller}
use Rattle.fibs_events.proofs.turning.turned.Goals as goal

pub returns-in-Some-game_seen_by-clause-none : goal.returns-in-Some-game_seen_by-clause-none
returns-in-Some-game_seen_by-clause-none c =
    let before = game_of c.args.before.now in
    let after = fields_of c.args.after.now in
    let who = c.in-Some.who in
    if_ok_none_then c.played_by.result (NoneIsPlayed (seen_by who before) (seen_by who after))
    (NonePlayed before after)
    (none_of_the_roller before after who (sym c.roller_of.ensures ∙ c.in-Some.is)) c.played_by.ensures.none
