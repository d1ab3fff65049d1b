use Rattle.std.proofs.Common.{◌++◌, ◌∙◌, List, ℕ, ap, refl, subst}
use Rattle.fibs_engine.specs.Writing.{GainedFront}
use Rattle.fibs_cli.specs.Endings.{last_object}
use Rattle.fibs_cli.proofs.objects.replay.print_log.Goals as goal

pub returns : goal.returns
returns g c =
    let h = c.in_ok-append_all.ensures in
    let all : List ℕ = h.0 ++ last_object c.args.last in (
      all,
      (h.0, h.1, refl),
      subst (GainedFront (g.W.Write.contents c.args.writer.now) (g.W.Write.contents c.write_bytes.new.writer))
          (c.as_slice.ensures.value ∙ h.2 ∙ ap (λ (l : List ℕ). l ++ all) c.new-text.ensures.items) (c.in-Err.ensures),
    )
