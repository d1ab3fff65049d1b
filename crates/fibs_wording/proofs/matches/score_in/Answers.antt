use Rattle.std.proofs.Common.{◌∙◌, codes, refl, sym, ap, Some}
use Rattle.std.proofs.lemmas.Bool.Decides.{Decides-eqb}
use Rattle.std.proofs.lemmas.Slice.Eq.{strip_prefix_is}
use Rattle.fibs_fields.specs.Split.{after, before, seen}
use Rattle.fibs_wording.proofs.EndingLemmas.{ArePoints, other_are_points, own_are_points, score_said, was_cut}
use Rattle.fibs_wording.proofs.matches.score_in.Goals as goal
use Rattle.fibs_wording.proofs.matches.score_in.Goals.{then-won, else-won}

pub returns-then-loser-winner : goal.returns-then-loser-winner
returns-then-loser-winner c =
    let text = c.args.rest.now in
    let behind = c.in_ok-rest-2.rest.now in
    let winner = c.in_ok-winner.winner in
    let loser = c.in_ok-loser-2.loser in
    let points : ArePoints c.args.won winner loser c.if-won.own = elim c.if-won.branch [
      | then-won w ↦ own_are_points c.args.won winner loser c.if-won.own w.if-won.true w.own-is
      | else-won w ↦ other_are_points c.args.won winner loser c.if-won.own w.if-won.false w.own-is
    ] in
    let len = (c.in_ok-length.ensures.exact c.in_ok-length.length).0 refl in
    let win = (c.in_ok-winner.ensures.exact winner).0 refl in
    let lose = (c.in_ok-loser-2.ensures.exact loser).0 refl in
    let cut = was_cut c.in_ok-rest.field-0.now (codes "point match ") c.strip_prefix.result c.in_ok-rest-2.rest
    c.in_ok-rest-2.was
    (strip_prefix_is Decides-eqb c.in_ok-rest.field-0.now (codes "point match ") c.strip_prefix.result
    c.strip_prefix.ensures.cases) in
    score_said c.args.won text behind c.in_ok-length.length winner loser c.if-won.own points
    (sym c.split.ensures.before ∙ len.0, len.1)
    (sym c.split.ensures.after ∙ ap seen c.in_ok-rest.was ∙ ap Some cut)
    (ap (before 45) (sym c.split-2.ensures.before) ∙ sym c.split-3.ensures.before ∙ win.0, win.1)
    (ap (after 45) (sym c.split-2.ensures.before) ∙ sym c.split-3.ensures.after ∙ ap seen c.in_ok-loser.was
    ∙ ap Some lose.0)
    lose.1 c.if-loser-winner.true (sym c.is_won.ensures ∙ c.if-is_won.true)
