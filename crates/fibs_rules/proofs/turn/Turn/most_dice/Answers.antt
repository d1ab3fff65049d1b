use Rattle.fibs_rules.proofs.SearchLemmas.MostDice.{most_is}
use Rattle.fibs_rules.proofs.turn.Turn.most_dice.Goals as goal

pub returns : goal.returns
returns c = rw c.most.ensures.value (most_is c.args.self.now c.most.ensures.first c.most.ensures.second)
