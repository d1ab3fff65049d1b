use Rattle.std.proofs.Common.{◌≡◌, ℕ, List, Option, sym, ap, ◌∙◌}
use Rattle.fibs_connect.specs.TypedReads.{ahead, TypedValue, SpendsReads}
use Rattle.fibs_connect.proofs.TypedLemmas.Parts.{line_ended, line_last, line_goes_on}
use Rattle.fibs_connect.proofs.TypedLemmas.Spent.{spends_kept, spends_more}
use Rattle.fibs_connect.proofs.typed.typed_lines.TypedLines.read_to_end.Goals as goal

-- the reads so far, a call that makes none, and one more
spent : (a b c d : TypedValue) (left mid still : Option (List ℕ)) → SpendsReads a b left mid → c.reads ≡ b.reads
    → SpendsReads c d mid still → SpendsReads a d left still
spent a b c d left mid still p same q = spends_more a c d left mid still (spends_kept a b c left mid p same) q

pub returns-in_err-read_portion-clause-spends : goal.returns-in_err-read_portion-clause-spends
returns-in_err-read_portion-clause-spends g c =
    spent c.args.self.now c.loop-line.self c.take_to_end.new.self c.read_portion.new.self _ _ _ c.loop-line.invariant.1
    c.take_to_end.ensures.reads c.read_portion.ensures.spends

pub returns-then-take_to_end-clause-takes : goal.returns-then-take_to_end-clause-takes
returns-then-take_to_end-clause-takes g c = λ fits.
    line_ended (ahead c.args.self.now (g.R.Read.remaining c.args.reader.now)) (g.R.Read.remaining c.loop-line.reader)
    c.loop-line.line.items c.loop-line.self.waiting
    c.take_to_end.new.line.items c.drop_return.new.line.items c.take_to_end.new.self.waiting
    (c.loop-line.invariant.0 fits).1
    c.if-take_to_end.ensures.found c.take_to_end.ensures.waiting c.take_to_end.ensures.line c.drop_return.ensures

pub returns-then-self-clause-takes : goal.returns-then-self-clause-takes
returns-then-self-clause-takes g c = λ fits.
    let over = (c.loop-line.invariant.0 fits).0 (sym c.take_to_end.ensures.ended
    ∙ sym (ap (λ v. v.ended) c.self.view_is) ∙ c.if-self.true) in
    line_last (ahead c.args.self.now (g.R.Read.remaining c.args.reader.now)) (g.R.Read.remaining c.loop-line.reader)
    c.loop-line.line.items c.loop-line.self.waiting
    c.take_to_end.new.line.items c.take_to_end.new.self.waiting c.is_empty.result (c.loop-line.invariant.0 fits).1
    c.if-take_to_end.ensures.found c.take_to_end.ensures.waiting c.take_to_end.ensures.line over c.is_empty.ensures

pub loop-line-preserved : goal.loop-line-preserved
loop-line-preserved g c = (
  λ fits. (
    λ e. (c.in_ok-read_portion.ensures.end e).1,
    line_goes_on (ahead c.args.self.now (g.R.Read.remaining c.args.reader.now)) (g.R.Read.remaining c.loop-line.reader)
        (g.R.Read.remaining c.read_portion.new.reader)
        c.loop-line.line.items c.loop-line.self.waiting c.take_to_end.new.line.items c.read_portion.new.self.waiting
        (c.loop-line.invariant.0 fits).1
        c.if-take_to_end.ensures.found c.take_to_end.ensures.line c.in_ok-read_portion.ensures.bytes,
  ),
  spent c.args.self.now c.loop-line.self c.take_to_end.new.self c.read_portion.new.self _ _ _ c.loop-line.invariant.1
      c.take_to_end.ensures.reads c.read_portion.ensures.spends,
)
