use Rattle.std.proofs.Common.{◌++◌, ◌∙◌, List, ℕ, ap, append_assoc}
use Rattle.fibs_engine.proofs.OkLemmas.{on_ok_weaker}
use Rattle.fibs_cli.specs.Endings.{last_object}
use Rattle.fibs_cli.proofs.objects.replay.append_all.Goals as goal

pub returns : goal.returns
returns c =
    let h = c.in_ok-append_log.ensures in
    let last : List ℕ = last_object c.args.last in
    on_ok_weaker c.append_last.result
    (λ e. (h.0, h.1, e ∙ ap (λ (l : List ℕ). l ++ last) h.2 ∙ append_assoc c.args.text.now.items h.0 last))
    c.append_last.ensures
