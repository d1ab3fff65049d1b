use Rattle.std.proofs.Common.{map}
use Rattle.std.proofs.lemmas.Result.{IfOk-weaker}
use Rattle.fibs_rules.specs.PlayValue.{hops_of}
use Rattle.fibs_rules.specs.LegalPlays.{PlayList}
use Rattle.fibs_rules.proofs.PlayListLemmas.ListedPlays.{listed}
use Rattle.fibs_rules.proofs.turn.Turn.plays.Goals as goal

pub returns : goal.returns
returns c =
    let p = c.args.self.now in
    IfOk-weaker c.descending.result _ (λ v. PlayList p (map hops_of v.items))
    (λ v e. listed p c.in_ok-kept.kept v.items c.in_ok-kept.ensures.first c.in_ok-kept.ensures.second
    c.descending.ensures.unique c.in_ok-kept.ensures.kept e.0 e.1)
    c.descending.ensures.plays
