use Rattle.std.proofs.Common.{refl, ap, sym, ◌∙◌, ◌∷◌, [], subst, arith}
use Rattle.std.proofs.lemmas.List.{take_all}
use Rattle.fibs_lines.specs.Progress.{IsRun}
use Rattle.fibs_lines.proofs.SentLemmas.{run_unbroken}
use Rattle.fibs_lines.proofs.StreamLawProofs.{lines_of_run}
use Rattle.fibs_lines.proofs.sent.sent_line.Goals as goal

pub returns-clause-line : goal.returns-clause-line
returns-clause-line c =
    let text = c.args.text.now in
    let run : IsRun text = subst IsRun (take_all c.run_len.result text (omega arith)) c.run_len.ensures.run in
    lines_of_run text run ∙ ap (λ line. line ∷ []) (sym c.limited.ensures)

pub returns-clause-where_unbroken : goal.returns-clause-where_unbroken
returns-clause-where_unbroken c =
    let text = c.args.text.now in
    let run : IsRun text = subst IsRun (take_all c.run_len.result text (omega arith)) c.run_len.ensures.run in
    (λ _. run_unbroken text run, λ _. refl)
