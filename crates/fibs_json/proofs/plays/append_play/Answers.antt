use Rattle.std.proofs.Common.{◌∷◌, [], codes}
use Rattle.fibs_commands.specs.Commands.{command_of}
use Rattle.fibs_position.specs.DecisionValue.{move}
use Rattle.fibs_rules.specs.PlayValue.{hops_of}
use Rattle.fibs_json.specs.Json.{array_of, more_value, quoted}
use Rattle.fibs_json.specs.Plays.{step_text}
use Rattle.fibs_json.proofs.ObjectLemmas.{gained_four}
use Rattle.fibs_json.proofs.plays.append_play.Goals as goal

pub returns : goal.returns
returns c =
    let play = hops_of c.args.play.now in
    gained_four c.args.text.now.items (codes "{\"command\":") (quoted (command_of c.args.direction (move play)))
    (more_value (codes "steps") (array_of step_text play)) (125 ∷ []) c.extend_from_slice.new.self.items
    c.append_command.new.text.items c.append_steps_of.new.text.items c.push.new.self.items
    c.in_ok-extend_from_slice.ensures.items c.in_ok-append_command.ensures c.in_ok-append_steps_of.ensures
    c.in_ok-push.ensures.items
