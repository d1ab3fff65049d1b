use Rattle.std.proofs.Common.{◌∙◌, ◌-◌, length, subst, sym, take, true≢false}
use Rattle.std.proofs.lemmas.Bool.Decides.{Decides-eqb}
use Rattle.std.proofs.lemmas.Slice.Eq.{ends_is, strip_prefix_is}
use Rattle.bstr.specs.Text.{Contains}
use Rattle.fibs_events.proofs.AnswerLemmas.{none_told, not_cut, was_cut}
use Rattle.fibs_events.proofs.ShapeLemmas.{same_rest}
use Rattle.fibs_events.proofs.told.after_beginning.Goals as goal
use Rattle.fibs_events.proofs.told.after_beginning.Goals.{else-contains_str-via-then-contains_str+else-ends_with, else-contains_str-via-else-contains_str}

pub returns-in_err-rest : goal.returns-in_err-rest
returns-in_err-rest c =
    let text = c.args.text.now in
    let front = c.args.shape.now.0.now in
    none_told c.from_residual.result _ _ c.from_residual.ensures (λ rest has.
    not_cut text front c.strip_prefix.result c.in_err-rest.was
    (strip_prefix_is Decides-eqb text front c.strip_prefix.result c.strip_prefix.ensures.cases) rest has.begins)

pub returns-then-ends_with : goal.returns-then-ends_with
returns-then-ends_with c =
    let text = c.args.text.now in
    let front = c.args.shape.now.0.now in
    let rest = c.in_ok-rest.rest.now in
    let end = c.args.shape.now.2.now in
    record {
      begins = was_cut text front c.strip_prefix.result c.in_ok-rest.rest c.in_ok-rest.was
          (strip_prefix_is Decides-eqb text front c.strip_prefix.result c.strip_prefix.ensures.cases);
      contains = c.contains_str.ensures.0 c.if-contains_str.true;
      ends = (
        take (length rest - length end) rest,
        (ends_is Decides-eqb rest end c.ends_with.result c.ends_with.ensures.value).0 c.if-ends_with.true,
      );
    }

pub returns-else-contains_str : goal.returns-else-contains_str
returns-else-contains_str c = λ other has.
    let text = c.args.text.now in
    let shape = c.args.shape.now in
    let rest = c.in_ok-rest.rest.now in
    let begins = was_cut text shape.0.now c.strip_prefix.result c.in_ok-rest.rest c.in_ok-rest.was
    (strip_prefix_is Decides-eqb text shape.0.now c.strip_prefix.result c.strip_prefix.ensures.cases) in
    let same = same_rest text shape rest other begins has in
    elim c.else-contains_str.branch [
      | else-contains_str-via-then-contains_str+else-ends_with w ↦
          true≢false (sym
          ((ends_is Decides-eqb rest shape.2.now w.ends_with.result w.ends_with.ensures.value).1 has.ends.0
          (sym same ∙ has.ends.1))
          ∙ w.if-ends_with.false)
      | else-contains_str-via-else-contains_str w ↦
          true≢false (sym (c.contains_str.ensures.1 (subst (λ r. Contains r shape.1.now) same has.contains))
          ∙ w.if-contains_str.false)
    ]
