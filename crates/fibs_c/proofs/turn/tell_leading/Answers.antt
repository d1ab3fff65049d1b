-- The play of the list that leads to the board is told.
use Rattle.std.proofs.Common.{map, inl, inr, refl, subst}
use Rattle.std.specs.List.{All, Contains}
use Rattle.std.proofs.lemmas.List.Elements.{All-map}
use Rattle.fibs_fields.specs.StoredBoard.{fields_of}
use Rattle.fibs_position.specs.GameOf.{game_of}
use Rattle.fibs_position.specs.PlaysOf.{PlaysIn}
use Rattle.fibs_rules.specs.PlayValue.{hops_of}
use Rattle.fibs_rules.specs.declared.play.Play.{Play}
use Rattle.fibs_c.specs.TurnDoor.{LeadsTo}
use Rattle.fibs_c.proofs.TurnLemmas.{value_in}
use Rattle.fibs_c.proofs.turn.tell_leading.Goals as goal

pub returns-in-None : goal.returns-in-None
returns-in-None c =
    let b = game_of c.args.game.now in
    let after = fields_of c.args.after.now in
    let plays = c.in-Ok.plays.items in
    inr (record {
      plays = map hops_of plays;
      are = subst (λ p. PlaysIn p (map hops_of plays)) c.position.ensures c.in-Ok.ensures;
      told_or_none = inr (
        refl,
        All-map (λ steps. ¬ LeadsTo b steps after) hops_of plays
            (subst (λ ps. All (λ (play : Play). ¬ LeadsTo b (hops_of play) after) ps) c.as_slice.ensures.value
            c.in-None.ensures.none),
        refl,
      );
    })

pub returns : goal.returns
returns c =
    let plays = c.in-Ok.plays.items in
    let (there, leads) = c.in-Some.ensures.some in
    inr (record {
      plays = map hops_of plays;
      are = subst (λ p. PlaysIn p (map hops_of plays)) c.position.ensures c.in-Ok.ensures;
      told_or_none = inl (
        refl,
        (
          hops_of c.in-Some.play,
          value_in plays c.in-Some.play
              (subst (λ ps. Contains ps c.in-Some.play) c.as_slice.ensures.value there),
          leads,
          c.play_record.ensures.play,
        ),
      );
    })
