use Rattle.std.proofs.Common.{sym}
use Rattle.fibs_fields.proofs.BoardLemmas.FieldGroups.{can_have_low, can_have_high}
use Rattle.fibs_fields.proofs.boards.field_ranges.can_have.Goals as goal
use Rattle.fibs_fields.proofs.boards.field_ranges.can_have.Goals.{then-n-lt4-via-then-n-lt4, then-n-lt4-via-else-n-lt4+then-n-gt53}

pub returns-then-n-lt4-clause-test : goal.returns-then-n-lt4-clause-test
returns-then-n-lt4-clause-test c =
    elim c.then-n-lt4.branch [
      | then-n-lt4-via-then-n-lt4 w ↦ sym (can_have_low c.args.n c.args.number w.if-n-lt4.true)
      | then-n-lt4-via-else-n-lt4+then-n-gt53 w ↦ sym (can_have_high c.args.n c.args.number w.if-n-gt53.true)
    ]
