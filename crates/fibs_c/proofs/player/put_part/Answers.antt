-- What follows the text is as it was.
use Rattle.std.proofs.Common.{rules}
use Rattle.std.proofs.lemmas.Slice.{overwrites}
use Rattle.fibs_c.proofs.player.put_part.Goals as goal

pub returns-clause-rest : goal.returns-clause-rest
returns-clause-rest c n h = search (rules, overwrites)
