-- The plays of the position are handed out.
use Rattle.std.proofs.Common.{arith, List, map, subst, inr}
use Rattle.std.proofs.lemmas.List.{length-map}
use Rattle.fibs_position.specs.PositionValue.{position_value}
use Rattle.fibs_rules.specs.PlayValue.{hops_of}
use Rattle.fibs_rules.specs.declared.play.Play.{Play}
use Rattle.fibs_c.specs.PositionDoor.{HandsOutPlays}
use Rattle.fibs_c.proofs.positions.fibs_plays.Goals as goal

pub returns-in-Ok-plays : goal.returns-in-Ok-plays
returns-in-Ok-plays c = inr (record {
  position = position_value c.in-Ok.position;
  is = c.in-Ok.ensures.position;
  plays = map hops_of c.in-Ok-plays.found.items;
  are = c.in-Ok-plays.ensures;
  count_is = omega (arith, c.len.ensures, c.in-Ok-plays.found.ok.0, length-map c.in-Ok-plays.found.items hops_of);
  handed = subst (λ (plays : List Play). HandsOutPlays (map hops_of plays) c.args.plays.now c.hand_out_plays.new.room
      c.hand_out_plays.result) c.as_slice.ensures.value c.hand_out_plays.ensures;
})
