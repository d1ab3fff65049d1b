use Rattle.std.proofs.Common.{◌++◌, ◌∷◌, ◌∙◌, [], List, ℕ, ap, append_assoc}
use Rattle.fibs_cli.proofs.objects.said.append_line.Goals as goal

pub returns : goal.returns
returns c =
    let h = c.in_ok-append_heard.ensures in (
      h.0,
      h.1,
      c.in_ok-push.ensures.items ∙ ap (λ (l : List ℕ). l ++ (10 ∷ [])) h.2
          ∙ append_assoc c.args.text.now.items h.0 (10 ∷ []),
    )
