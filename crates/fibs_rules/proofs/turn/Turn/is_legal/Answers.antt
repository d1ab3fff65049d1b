use Rattle.std.proofs.Common.{sym, ◌∙◌, ap}
use Rattle.fibs_rules.specs.PlayValue.{hops_of}
use Rattle.fibs_rules.specs.LegalPlays.{legal_of}
use Rattle.fibs_rules.proofs.SearchLemmas.LegalTest.{legal_sound, legal_complete}
use Rattle.fibs_rules.proofs.turn.Turn.is_legal.Goals as goal

pub returns : goal.returns
returns c =
    let e = c.legal.ensures.value ∙ ap (legal_of c.args.self.now) c.steps.ensures.value in (
      λ h. legal_sound c.args.self.now (hops_of c.args.play.now) c.legal.ensures.first c.legal.ensures.second
          (sym e ∙ h),
      λ h. e ∙ legal_complete c.args.self.now (hops_of c.args.play.now) c.legal.ensures.first c.legal.ensures.second h,
    )
