-- Each part adds its event, if there is one.
use Rattle.std.proofs.Common.{◌++◌}
use Rattle.std.specs.Prelude.{option_map}
use Rattle.fibs_events.specs.declared.event.Event.TheVariants as E
use Rattle.fibs_c.specs.Records.EventOf.{events_in, listed, rolled_event, taken_event, turned_event, won_event, won_match_event}
use Rattle.fibs_c.proofs.EventLemmas.{gained}
use Rattle.fibs_c.proofs.records.events.happened_record.Goals as goal

pub returns-clause-events : goal.returns-clause-events
returns-clause-events c =
    let h = c.args.happened.now in
    let said = listed h.said in
    let played = said ++ listed (option_map turned_event h.played) in
    let doubled = played ++ listed (option_map E.Doubled h.doubled) in
    let taken = doubled ++ listed (option_map taken_event h.accepted) in
    let rolled = taken ++ listed (option_map rolled_event h.rolled) in
    let won = rolled ++ listed (option_map won_event h.won) in
    let first = events_in c.said_record-told.result in
    let second = events_in c.push.new.told in
    let third = events_in c.push-2.new.told in
    let fourth = events_in c.push-3.new.told in
    let fifth = events_in c.push-4.new.told in
    let sixth = events_in c.push-5.new.told in
    gained sixth (events_in c.push-6.new.told) won c.match_end.result (option_map won_match_event h.won_match)
    c.push-6.ensures.events
    (gained fifth sixth rolled c.game_end.result (option_map won_event h.won) c.push-5.ensures.events
    (gained fourth fifth taken c.roll.result (option_map rolled_event h.rolled) c.push-4.ensures.events
    (gained third fourth doubled c.acceptance.result (option_map taken_event h.accepted) c.push-3.ensures.events
    (gained second third played c.double.result (option_map E.Doubled h.doubled) c.push-2.ensures.events
    (gained first second said c.play.result (option_map turned_event h.played) c.push.ensures.events
    c.said_record-told.ensures.events c.play.ensures) c.double.ensures)
    c.acceptance.ensures) c.roll.ensures) c.game_end.ensures) c.match_end.ensures
