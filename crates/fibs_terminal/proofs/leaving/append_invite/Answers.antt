use Rattle.std.proofs.Common.{codes}
use Rattle.fibs_wording.proofs.GrowingLemmas.{three-appended}
use Rattle.fibs_terminal.proofs.leaving.append_invite.Goals as goal

pub returns : goal.returns
returns c =
    three-appended c.extend_from_slice-3.result c.args.row.now.items (codes ": invite ") c.args.opponent.now
    (codes " then resumes it") _ _ _ c.in_ok-extend_from_slice.ensures.items c.in_ok-extend_from_slice-2.ensures.items
    c.extend_from_slice-3.ensures.items
