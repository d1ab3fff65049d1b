-- What was heard is reported.
use Rattle.std.proofs.Common.{rules, ◌≡◌, ℕ, length, take, refl, ap, subst, ◌∙◌}
use Rattle.std.proofs.lemmas.List.{take_min}
use Rattle.fibs_lines.specs.Lines.{kept_limit}
use Rattle.fibs_c.specs.Records.Decisions.{IsMaybeDecision}
use Rattle.fibs_c.proofs.feeding.tell.Goals as goal

pub returns-clause-tells : goal.returns-clause-tells
returns-clause-tells c =
    let line = c.args.taken.line.bytes.now in
    let kept : take c.min.result line ≡ take kept_limit line =
    ap (λ (n : ℕ). take n line) c.min.ensures ∙ take_min kept_limit line in
    record {
      ended = refl;
      few = search rules;
      len_is = c.put.ensures.size ∙ ap length kept;
      bytes = c.put.ensures.bytes ∙ kept;
      rest = search rules;
      cut = c.flag.ensures;
      kind = c.of.ensures;
      confirmed = subst (IsMaybeDecision c.maybe_record.result) c.decision_of-decision.ensures
          c.maybe_record.ensures;
      rolled = c.flag-2.ensures;
    }
