use Rattle.fibs_position.specs.PositionValue.{position_value}
use Rattle.fibs_picture.specs.InWords.Words.{count_on}
use Rattle.fibs_picture.proofs.WordsLemmas.Growing.{stacks-begun, stacks-written}
use Rattle.fibs_picture.proofs.in_words.stacks.write_stacks.Goals as goal

pub loop-steps-init : goal.loop-steps-init
loop-steps-init g c =
    let p = position_value c.args.position.now in
    stacks-begun c.args.direction c.args.side (count_on p.standing.checkers c.args.side) _

pub loop-steps-preserved : goal.loop-steps-preserved
loop-steps-preserved g c =
    let p = position_value c.args.position.now in
    stacks-written c.args.direction c.args.side (count_on p.standing.checkers c.args.side) c.loop-steps.steps _ _ _
    c.loop-steps.invariant c.in_ok-write_stack.ensures
