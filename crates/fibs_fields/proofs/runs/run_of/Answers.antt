use Rattle.std.proofs.Common.{◌≡◌, get_or, length, true, sym, ◌∙◌, arith}
use Rattle.std.proofs.lemmas.List.Sums.{prefix_len_is}
use borrow.Author.Count.{below_more}
use Rattle.fibs_fields.specs.Runs.{is_between}
use Rattle.fibs_fields.proofs.runs.run_of.Goals as goal

pub loop-i-preserved : goal.loop-i-preserved
loop-i-preserved c =
    below_more (λ k. is_between c.args.low c.args.high c.args.except (get_or c.args.text.now k 0) ≡ true) c.loop-i.i
    c.loop-i.invariant (sym c.is_between.ensures ∙ c.if-not-is_between.false)

pub returns-then-not-is_between : goal.returns-then-not-is_between
returns-then-not-is_between c =
    sym (prefix_len_is (is_between c.args.low c.args.high c.args.except) c.args.text.now c.loop-i.i 0 (omega arith)
    c.loop-i.invariant (λ within. sym c.is_between.ensures ∙ c.if-not-is_between.true))

pub returns : goal.returns
returns c =
    sym (prefix_len_is (is_between c.args.low c.args.high c.args.except) c.args.text.now (length c.args.text.now) 0
    (omega arith) (λ k below. c.loop-i.invariant k (omega arith)) (λ past. absurd (omega arith)))
