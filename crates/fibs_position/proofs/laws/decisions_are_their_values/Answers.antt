use Rattle.std.proofs.Common.{rules}
use Rattle.fibs_rules.proofs.LawLemmas.Equality.{play_eq}
use Rattle.fibs_position.proofs.LawLemmas.Equality.{same_decision}
use Rattle.fibs_position.proofs.laws.decisions_are_their_values.Goals as goal

pub returns-clause-test : goal.returns-clause-test
returns-clause-test c = search (rules, play_eq, same_decision)

pub returns-clause-same : goal.returns-clause-same
returns-clause-same c = same_decision c.args.a.now c.args.b.now
