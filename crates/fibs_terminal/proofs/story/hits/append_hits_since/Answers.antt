use Rattle.std.proofs.Common.{◌≡◌, false}
use Rattle.std.specs.Prelude.{OnOk}
use Rattle.fibs_position.specs.GameOf.{game_of}
use Rattle.fibs_terminal.specs.HitsTold.{tells_hits}
use Rattle.fibs_terminal.proofs.TellingLemmas.{in_some}
use Rattle.fibs_terminal.proofs.story.hits.append_hits_since.Goals as goal

pub returns-in-Some-clause-silent : goal.returns-in-Some-clause-silent
returns-in-Some-clause-silent c =
    in_some c.args.last.now c.in-Some.before
    (λ before. tells_hits (game_of before) (game_of c.args.after.now) ≡ false
    → OnOk c.append_if_hit.result (c.append_if_hit.new.text.items ≡ c.args.text.now.items))
    c.in-Some.is c.append_if_hit.ensures.silent
