use Rattle.fibs_fields.specs.StoredBoard.{fields_of}
use Rattle.fibs_position.specs.GameOf.{game_of}
use Rattle.fibs_events.specs.Happenings.{seen_by}
use Rattle.fibs_events.proofs.TurningLemmas.{none_as_seen}
use Rattle.fibs_events.proofs.turning.played_by.Goals as goal

pub returns-in-None-clause-none : goal.returns-in-None-clause-none
returns-in-None-clause-none c =
    none_as_seen c.in_ok-played.field-0 (seen_by c.args.who (game_of c.args.before.now)) (game_of c.args.seen.now)
    (seen_by c.args.who (fields_of c.args.after.now)) (fields_of c.seen_by.result) c.in-None.is
    c.in_ok-played.ensures.none c.requires c.seen_by.ensures
