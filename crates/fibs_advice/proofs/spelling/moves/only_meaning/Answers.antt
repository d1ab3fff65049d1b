use Rattle.std.proofs.Common.{sym, subst}
use Rattle.std.specs.Prelude.{IfSome}
use Rattle.fibs_rules.specs.PlayValue.{hops_of}
use Rattle.fibs_advice.specs.Spelling.{LeadsSame}
use Rattle.fibs_advice.proofs.spelling.moves.only_meaning.Goals.{then-leads_same+else-is_some, else-leads_same}
use Rattle.fibs_advice.proofs.spelling.moves.only_meaning.Goals as goal

pub loop-play-preserved : goal.loop-play-preserved
loop-play-preserved c = elim c.if-leads_same.branch [
  | then-leads_same+else-is_some w ↦ subst
      (λ found. IfSome found (λ play. LeadsSame (hops_of c.args.typed.now) (hops_of play)))
      (sym w.found-is) (c.leads_same.ensures w.if-leads_same.true)
  | else-leads_same w ↦ subst
      (λ found. IfSome found (λ play. LeadsSame (hops_of c.args.typed.now) (hops_of play)))
      (sym w.found-is) c.loop-play.invariant
]
