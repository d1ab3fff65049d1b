use Rattle.fibs_rules.specs.PlayValue.{hops_of}
use Rattle.fibs_json.specs.Json.{more_item}
use Rattle.fibs_json.specs.Plays.{play_object}
use Rattle.fibs_json.proofs.ObjectLemmas.{items_more}
use Rattle.fibs_json.proofs.plays.append_next_plays.Goals as goal

pub loop-play-preserved : goal.loop-play-preserved
loop-play-preserved c =
    items_more hops_of (more_item (play_object c.args.direction)) c.args.plays.now c.loop-play.play-index
    c.play-item.result c.args.text.now.items c.loop-play.text.items c.append_next_play.new.text.items
    c.loop-play-test.true c.play-item.is c.loop-play.invariant c.in_ok-append_next_play.ensures
