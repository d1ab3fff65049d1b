use Rattle.fibs_show.specs.Checked.{line_checked}
use Rattle.fibs_fields.proofs.BoardLemmas.CheckedLines.{checked_found, checked_only, checked_wrong, checked_least}
use Rattle.fibs_show.proofs.copied_lines.check.check_board.Goals as goal

pub returns-clause-found : goal.returns-clause-found
returns-clause-found c =
    checked_found c.args.line.now (line_checked c.check_fields.result)
    (record { kept = c.check_fields.ensures.kept; fault = c.check_fields.ensures.fault })

pub returns-clause-only : goal.returns-clause-only
returns-clause-only c =
    checked_only c.args.line.now (line_checked c.check_fields.result)
    (record { kept = c.check_fields.ensures.kept; fault = c.check_fields.ensures.fault })

pub returns-clause-wrong : goal.returns-clause-wrong
returns-clause-wrong c =
    checked_wrong c.args.line.now (line_checked c.check_fields.result)
    (record { kept = c.check_fields.ensures.kept; fault = c.check_fields.ensures.fault })

pub returns-clause-least : goal.returns-clause-least
returns-clause-least c =
    checked_least c.args.line.now (line_checked c.check_fields.result)
    (record { kept = c.check_fields.ensures.kept; fault = c.check_fields.ensures.fault })
