-- The command of the decision is handed out.
use Rattle.std.proofs.Common.{rules, ℕ, List, subst, ◌∙◌}
use Rattle.fibs_c.specs.Records.Texts.{HandsOut}
use Rattle.fibs_c.proofs.positions.hand_out_command.Goals as goal

pub returns : goal.returns
returns c =
    let out = c.hand_out in (
      subst (λ (bytes : List ℕ). HandsOut bytes c.args.text.now out.new.room out.new.len out.result)
          (c.as_bytes.ensures.value ∙ c.deref.ensures.0 ∙ c.decision_text-command.ensures) out.ensures,
      search rules,
    )
