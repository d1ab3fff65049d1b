use Rattle.std.proofs.Common.{◌++◌, ◌∙◌, ap, append_assoc, refl, subst, sym, take}
use Rattle.fibs_json.specs.Passing.{AnyAt, EventfulAt, IsAsked, IsPlaceIn, lines_after}
use Rattle.fibs_json.proofs.CountLemmas.{lines_counted}
use Rattle.fibs_json.proofs.RefusedLemmas.{asked_at}
use Rattle.fibs_json.proofs.eventful.EventObjectsLinePrinter.append_piece.Goals as goal

pub returns : goal.returns
returns c =
    let refused = c.in_ok-append_refusals.ensures in
    let lines = c.in_ok-append_any_line.ensures in
    let told = refused.told in
    let shown = lines.shown in (
      told.0 ++ shown.0,
      shown.2 ∙ ap (λ l. l ++ shown.0) told.1 ∙ append_assoc c.args.text.now.items told.0 shown.0,
      λ s text reads prints feeds.
          let heard = asked_at c.args.self.now.place c.pass.new.self c.args.self.now.asking
          c.append_refusals.new.self.asking c.args.piece.now told.0 shown.0 c.args.fed.now c.args.fed.now.line refl
          told.2
          (subst (λ p. AnyAt EventfulAt p c.args.fed.now.line shown.0) refused.place shown.1)
          (λ t u at fed. c.pass.ensures t u (subst (λ p. IsPlaceIn p t) (sym (lines.place ∙ refused.place)) at) fed)
          s text (reads.0, reads.1) prints feeds in
          let all = s ++ take c.args.fed.now.used c.args.piece.now in
          let counted = lines_counted c.args.self.now.counts.lines c.append_any_line.new.self.counts.lines s
          c.args.piece.now c.args.fed.now c.args.fed.now.line refl
          (lines.lines ∙ ap (λ n. lines_after n c.args.fed.now.line) refused.lines) reads.2 feeds in
          ((heard.0.0, subst (λ a. IsAsked a all) (sym lines.asking) heard.0.1, counted), heard.1),
    )
