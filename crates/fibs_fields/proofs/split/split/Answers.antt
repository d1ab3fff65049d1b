use Rattle.std.proofs.Common.{◌∙◌, arith}
use Rattle.std.proofs.lemmas.Bool.{eqb-true, eq-eqb}
use Rattle.fibs_fields.proofs.FieldLemmas.Splits.{rest_after, split_at, split_none}
use Rattle.fibs_fields.proofs.split.split.Goals as goal

pub returns-in-Some-clause-before : goal.returns-in-Some-clause-before
returns-in-Some-clause-before c =
    let e = c.in-Some.ensures in
    (split_at c.args.byte c.args.text.now c.in-Some.at e.0.high (λ j l is. e.0.before j (omega arith) l (eq-eqb _ _ is))
    (eqb-true _ _ e.1)).0

pub returns-in-Some-clause-after : goal.returns-in-Some-clause-after
returns-in-Some-clause-after c =
    let e = c.in-Some.ensures in
    let text = c.args.text.now in
    let k = c.in-Some.at in
    rest_after text k e.0.high
    ∙ (split_at c.args.byte text k e.0.high (λ j l is. e.0.before j (omega arith) l (eq-eqb _ _ is))
    (eqb-true _ _ e.1)).1

pub returns-in-None-clause-before : goal.returns-in-None-clause-before
returns-in-None-clause-before c =
    (split_none c.args.byte c.args.text.now (λ j l is. c.in-None.ensures j (omega arith) l (eq-eqb _ _ is))).0

pub returns-in-None-clause-after : goal.returns-in-None-clause-after
returns-in-None-clause-after c =
    (split_none c.args.byte c.args.text.now (λ j l is. c.in-None.ensures j (omega arith) l (eq-eqb _ _ is))).1
