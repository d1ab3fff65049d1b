use Rattle.std.proofs.Common.{◌++◌, codes, ap, ◌∙◌}
use Rattle.fibs_wording.proofs.GrowingLemmas.{three-appended}
use Rattle.fibs_terminal.specs.Leaving.{leave_word}
use Rattle.fibs_terminal.proofs.leaving.append_again.Goals as goal

pub returns : goal.returns
returns c =
    three-appended c.extend_from_slice-3.result c.args.row.now.items (codes ": ") (leave_word c.args.leave)
    (codes " again leaves.\n") _ _ _ c.in_ok-extend_from_slice.ensures.items
    (c.in_ok-extend_from_slice-2.ensures.items ∙ ap (λ w. c.extend_from_slice.new.self.items ++ w) c.word.ensures)
    c.extend_from_slice-3.ensures.items
