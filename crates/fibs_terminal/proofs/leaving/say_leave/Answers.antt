use Rattle.std.proofs.Common.{◌++◌, ap, ◌∙◌}
use Rattle.fibs_terminal.specs.Leaving.{leave_words}
use Rattle.fibs_terminal.proofs.FittingLemmas.{said_as}
use Rattle.fibs_terminal.proofs.leaving.say_leave.Goals as goal

pub returns : goal.returns
returns c =
    let words = leave_words c.args.leave c.args.opponent.now in
    said_as c.say_rows.result _ _ words _ _
    (c.as_slice.ensures.value ∙ c.in_ok-append_leave.ensures ∙ ap (λ t. t ++ words) c.new-row.ensures.items)
    c.say_rows.ensures.said
