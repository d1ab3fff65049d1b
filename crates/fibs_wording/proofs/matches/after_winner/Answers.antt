use Rattle.std.proofs.Common.{◌++◌, ◌∙◌, ap, codes}
use Rattle.std.proofs.lemmas.Bool.Decides.{Decides-eqb}
use Rattle.std.proofs.lemmas.Slice.Eq.{strip_prefix_is}
use Rattle.fibs_wording.specs.Endings.{own_win}
use Rattle.fibs_wording.proofs.EndingLemmas.{nobody_won, none_told, not_cut, was_cut}
use Rattle.fibs_wording.proofs.matches.after_winner.Goals as goal

pub returns-in-Some : goal.returns-in-Some
returns-in-Some c = was_cut c.args.text.now own_win c.strip_prefix.result c.in-Some.rest c.in-Some.is
    (strip_prefix_is Decides-eqb c.args.text.now own_win c.strip_prefix.result c.strip_prefix.ensures.cases)

pub returns-in_err-rest : goal.returns-in_err-rest
returns-in_err-rest c =
    let text = c.args.text.now in
    let opponent = c.args.opponent.now in
    none_told c.from_residual.result _ _ c.from_residual.ensures (nobody_won text opponent
    (not_cut text own_win c.strip_prefix.result c.in_default.is
    (strip_prefix_is Decides-eqb text own_win c.strip_prefix.result c.strip_prefix.ensures.cases))
    (λ rest. not_cut text opponent c.strip_prefix-2.result c.in_err-rest.was
    (strip_prefix_is Decides-eqb text opponent c.strip_prefix-2.result c.strip_prefix-2.ensures.cases)
    (codes " wins the " ++ rest)))

pub returns : goal.returns
returns c =
    let text = c.args.text.now in
    let opponent = c.args.opponent.now in
    let verb = codes " wins the " in (
      not_cut text own_win c.strip_prefix.result c.in_default.is
          (strip_prefix_is Decides-eqb text own_win c.strip_prefix.result c.strip_prefix.ensures.cases),
      was_cut text opponent c.strip_prefix-2.result c.in_ok-rest.rest c.in_ok-rest.was
          (strip_prefix_is Decides-eqb text opponent c.strip_prefix-2.result c.strip_prefix-2.ensures.cases)
          ∙ ap (λ l. opponent ++ l)
          (was_cut c.in_ok-rest.rest.now verb c.strip_prefix-3.result c.in_ok-strip_prefix.field-0
          c.in_ok-strip_prefix.was
          (strip_prefix_is Decides-eqb c.in_ok-rest.rest.now verb c.strip_prefix-3.result
          c.strip_prefix-3.ensures.cases)),
    )
