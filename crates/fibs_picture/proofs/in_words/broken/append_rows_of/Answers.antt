use Rattle.std.proofs.Common.{◌≤◌, ◌-◌, length, refl, arith}
use Rattle.std.proofs.lemmas.Bool.Decides.{nat_tests}
use Rattle.fibs_picture.proofs.WordsLemmas.Saying.{says-first, says-all}
use Rattle.fibs_picture.proofs.in_words.broken.append_rows_of.Goals as goal

pub returns-then-said-last-eq10 : goal.returns-then-said-last-eq10
returns-then-said-last-eq10 c =
    let some : 1 ≤ length c.args.said.now = grind (arith, nat_tests, c.is_empty.ensures, c.if-is_empty.false) in
    says-first c.append_rows.result c.args.columns (length c.args.said.now - 1) _ c.args.said.now _ _ some refl
    c.if-said-last-eq10.true refl c.append_rows.ensures

pub returns-else-said-last-eq10 : goal.returns-else-said-last-eq10
returns-else-said-last-eq10 c =
    let some : 1 ≤ length c.args.said.now = grind (arith, nat_tests, c.is_empty.ensures, c.if-is_empty.false) in
    says-all c.append_rows-else-said-last-eq10.result c.args.columns (length c.args.said.now - 1) c.args.said.now _ _
    some refl c.if-said-last-eq10.false c.append_rows-else-said-last-eq10.ensures
