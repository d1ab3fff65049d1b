use Rattle.std.proofs.Common.{sym, ◌∙◌}
use Rattle.fibs_rules.proofs.SearchLemmas.SomeStep.{can_sound, can_complete}
use Rattle.fibs_rules.proofs.turn.Turn.can_move.Goals as goal

pub returns : goal.returns
returns c =
    let e = c.can_play_either.ensures in
    (λ h. can_sound c.args.self.now e.first e.second (sym e.value ∙ h), λ h. e.value ∙ can_complete c.args.self.now h)
