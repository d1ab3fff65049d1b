use Rattle.std.proofs.Common.{None, Some, refl, ap, sym, ◌∙◌}
use Rattle.std.specs.Result.{result_err}
use Rattle.std.proofs.KnownBytes.{Keeps-refl}
use Rattle.fibs_commands.specs.Logins.{login_fault}
use Rattle.fibs_connect.proofs.ConverseLemmas.Logins.{conversed_by}
use Rattle.fibs_connect.proofs.TypedLemmas.Spent.{spends_more, spends_few}
use Rattle.fibs_connect.proofs.converse_on.Goals as goal

pub returns-in-Err-clause-conversed : goal.returns-in-Err-clause-conversed
returns-in-Err-clause-conversed g c =
    conversed_by c.args.name.now c.read_line.new.line.items c.new-lines.result.waiting
    (g.R.Read.remaining c.args.typed.now) _ _ (Some c.in-Err.fault) c.print_fault.result _ _ _
    c.new-lines.ensures.waiting (c.in_ok-read_line.ensures.takes (λ e. absurd (cc)))
    (sym (ap result_err c.in-Err.is) ∙ c.new.ensures.fault
    ∙ ap (login_fault c.args.name.now) c.as_slice.ensures.value)
    (c.print_fault.ensures.printed, refl)

pub returns-in-Ok-clause-conversed : goal.returns-in-Ok-clause-conversed
returns-in-Ok-clause-conversed g c =
    conversed_by c.args.name.now c.read_line.new.line.items c.new-lines.result.waiting
    (g.R.Read.remaining c.args.typed.now) _ _ None c.answer_lines.result _ _ _
    c.new-lines.ensures.waiting (c.in_ok-read_line.ensures.takes (λ e. absurd (cc)))
    (sym (ap result_err c.in-Ok.is) ∙ c.new.ensures.fault ∙ ap (login_fault c.args.name.now) c.as_slice.ensures.value)
    (c.answer_lines.ensures.done, Keeps-refl _)

pub returns-in_err-read_line-clause-few : goal.returns-in_err-read_line-clause-few
returns-in_err-read_line-clause-few g c =
    spends_few c.new-lines.result c.read_line.new.self _ _ c.args.reads c.new-lines.ensures.reads
    c.read_line.ensures.spends

pub returns-in-Err-clause-few : goal.returns-in-Err-clause-few
returns-in-Err-clause-few g c =
    spends_few c.new-lines.result c.read_line.new.self _ _ c.args.reads c.new-lines.ensures.reads
    c.read_line.ensures.spends

pub returns-in-Ok-clause-few : goal.returns-in-Ok-clause-few
returns-in-Ok-clause-few g c =
    spends_few c.new-lines.result c.answer_lines.new.lines _ _ c.args.reads c.new-lines.ensures.reads
    (spends_more c.new-lines.result c.read_line.new.self c.answer_lines.new.lines _ _ _ c.read_line.ensures.spends
    c.answer_lines.ensures.spends)
