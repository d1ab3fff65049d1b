use Rattle.std.proofs.Common.{◌≡◌, ◌<◌, ◌++◌, true, false, length, take, Some, refl, sym, ap, subst, ◌∙◌, arith}
use Rattle.std.proofs.lemmas.List.{take_all}
use Rattle.fibs_lines.specs.Progress.{kept, Advances, AdvancesToEnd}
use Rattle.fibs_lines.specs.LinesValue.{StandsAfter, lines_value}
use Rattle.fibs_lines.proofs.FeedLemmas.{kept_of, StandsAfter-from_kept, KeptAfter-from_stands, Feeds_whole, Feeds_line, KeptAfter_line, value_where_lent, value_where_not_lent}
use Rattle.fibs_lines.proofs.lines.Lines.feed.Goals as goal
use Rattle.fibs_lines.proofs.lines.Lines.feed.Goals.{then-self, else-self}

pub returns-in-None : goal.returns-in-None
returns-in-None c =
    let u = c.if-self.self-inside.unfinished in
    let was : kept_of c.args.self.now ≡ kept u = elim c.if-self.branch [
      | then-self w ↦
          ap kept_of (sym c.self.view_is ∙ value_where_lent c.self.inside.unfinished c.self.inside.lent w.if-self.true)
          ∙ sym w.clear.ensures ∙ ap (λ i. kept i.unfinished) (sym w.self-inside-is)
      | else-self w ↦
          ap kept_of
          (sym c.self.view_is ∙ value_where_not_lent c.self.inside.unfinished c.self.inside.lent w.if-self.false)
          ∙ ap (λ i. kept i.unfinished) (sym w.self-inside-is)
    ] in
    let not_lent : c.if-self.self-inside.lent ≡ false = elim c.if-self.branch [
      | then-self w ↦ ap (λ i. i.lent) w.self-inside-is
      | else-self w ↦ ap (λ i. i.lent) w.self-inside-is ∙ w.if-self.false
    ] in
    let piece = c.args.piece.now in
    let new = c.take_up_to_end.new.self in
    let now = sym (value_where_not_lent new c.if-self.self-inside.lent not_lent) in
    let a : Advances (kept_of c.args.self.now) (kept new) piece =
    subst (λ v. Advances v (kept new) piece) (sym was) (c.in-None.ensures.all) in
    let all : take (length piece) piece ≡ piece = take_all (length piece) piece (omega arith) in (
      (
        refl,
        λ _. tt,
        (
          λ s stands. subst (λ v. StandsAfter v (s ++ take (length piece) piece)) now
              (subst (λ l. StandsAfter (lines_value new false) (s ++ l)) (sym all)
              (StandsAfter-from_kept (lines_value new false) (s ++ piece)
              (a.stands s (KeptAfter-from_stands c.args.self.now s stands)))),
          ap (λ v. v.line) (sym now),
        ),
      ),
      record {
        in_range = omega arith;
        progress = λ some. omega arith;
        feeds =
            λ s stands. Feeds_whole _ _ s piece a (KeptAfter-from_stands c.args.self.now s stands);
        stands = tt;
      },
    )

pub returns-in-Some : goal.returns-in-Some
returns-in-Some c =
    let u = c.if-self.self-inside.unfinished in
    let was : kept_of c.args.self.now ≡ kept u = elim c.if-self.branch [
      | then-self w ↦
          ap kept_of (sym c.self.view_is ∙ value_where_lent c.self.inside.unfinished c.self.inside.lent w.if-self.true)
          ∙ sym w.clear.ensures ∙ ap (λ i. kept i.unfinished) (sym w.self-inside-is)
      | else-self w ↦
          ap kept_of
          (sym c.self.view_is ∙ value_where_not_lent c.self.inside.unfinished c.self.inside.lent w.if-self.false)
          ∙ ap (λ i. kept i.unfinished) (sym w.self-inside-is)
    ] in
    let piece = c.args.piece.now in
    let new = c.take_up_to_end.new.self in
    let at = c.in-Some.at in
    let within : at < length piece = c.in-Some.ensures.end.in_range in
    let a : AdvancesToEnd (kept_of c.args.self.now) (kept new) piece at =
    subst (λ v. AdvancesToEnd v (kept new) piece at) (sym was) (c.in-Some.ensures.end) in (
      (
        refl,
        λ _. tt,
        (
          λ s stands. StandsAfter-from_kept (lines_value new true) _
              (KeptAfter_line _ _ s piece at a (KeptAfter-from_stands c.args.self.now s stands)),
          ap Some (sym c.line.ensures),
        ),
      ),
      record {
        in_range = omega arith;
        progress = λ some. omega arith;
        feeds =
            λ s stands. Feeds_line _ _ s piece at a (KeptAfter-from_stands c.args.self.now s stands) c.line.result
            c.line.ensures;
        stands = tt;
      },
    )
