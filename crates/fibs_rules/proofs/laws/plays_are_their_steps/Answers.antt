use Rattle.fibs_rules.proofs.LawLemmas.Equality.{same_play, play_eq}
use Rattle.fibs_rules.proofs.laws.plays_are_their_steps.Goals as goal

pub returns-clause-test : goal.returns-clause-test
returns-clause-test c = play_eq c.args.a.now c.args.b.now c.eq.result c.eq.ensures

pub returns-clause-same : goal.returns-clause-same
returns-clause-same c = same_play c.args.a.now c.args.b.now
