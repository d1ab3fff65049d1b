use Rattle.std.proofs.Common.{◌≡◌, ◌++◌, map, take}
use Rattle.std.specs.List.{flat_map}
use Rattle.fibs_rules.specs.PlayValue.{hops_of}
use Rattle.fibs_json.specs.Json.{more_item}
use Rattle.fibs_json.specs.Plays.{play_object}
use Rattle.fibs_json.proofs.plays.append_next_plays.Given as goal

abbrev pub invariant-loop-play : goal.invariant-loop-play
invariant-loop-play l = l.text.items ≡ l.initial.text.items ++ flat_map (more_item (play_object l.direction))
    (map hops_of (take l.play-index l.plays))
