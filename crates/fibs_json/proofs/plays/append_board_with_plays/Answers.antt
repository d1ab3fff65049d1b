use Rattle.std.proofs.Common.{◌≡◌, ◌++◌, ◌∙◌, ap, subst, refl, codes, map}
use Rattle.fibs_fields.specs.StoredBoard.{fields_of}
use Rattle.fibs_position.specs.Phases.{InPhase}
use Rattle.fibs_position.specs.PlaysOf.{PlaysIn}
use Rattle.fibs_position.specs.PositionValue.{PositionValue, position_of, position_value}
use Rattle.fibs_rules.specs.PlayValue.{hops_of}
use Rattle.fibs_json.specs.Boards.{board_members, position_members}
use Rattle.fibs_json.specs.Json.{more_members}
use Rattle.fibs_json.specs.Lines.{object_with}
use Rattle.fibs_json.specs.Plays.{plays_member}
use Rattle.fibs_json.proofs.ObjectLemmas.{gained_both}
use Rattle.fibs_json.proofs.plays.append_board_with_plays.Goals as goal

pub returns : goal.returns
returns c =
    let b = fields_of c.args.board.now in
    let bytes = c.args.line.now in
    let v : PositionValue = position_value c.args.position.now in
    let p : PositionValue = position_of b in
    let same : v ≡ p = c.requires in
    let placed = c.in_ok-append_position.ensures in
    let plays = map hops_of c.in_ok-plays.plays.items in
    let members = board_members b ++ position_members placed.0 p in
    let third = placed.2 ∙ ap (λ (q : PositionValue). c.append_fields.new.text.items
    ++ more_members (position_members placed.0 q)) same in
    let fourth = c.in_ok-append_plays.ensures
    ∙ ap (λ d. c.append_position.new.text.items ++ plays_member d (map hops_of c.as_slice.result.now))
    (c.direction.ensures ∙ ap (λ (q : PositionValue). q.direction) same)
    ∙ ap (λ l. c.append_position.new.text.items ++ plays_member p.direction (map hops_of l))
    c.as_slice.ensures.value in (
      object_with (codes "board") bytes (more_members members ++ plays_member p.direction plays),
      (
        placed.0,
        plays,
        subst (λ (q : PositionValue). InPhase q placed.0) same placed.1,
        subst (λ (q : PositionValue). PlaysIn q plays) same c.in_ok-plays.ensures,
        refl,
      ),
      gained_both c.args.text.now.items (codes "board") bytes (plays_member p.direction plays)
          c.append_front.new.text.items c.append_fields.new.text.items c.append_position.new.text.items
          c.append_plays.new.text.items c.push.new.self.items (board_members b) (position_members placed.0 p)
          c.in_ok-append_front.ensures c.in_ok-append_fields.ensures third fourth c.in_ok-push.ensures.items,
    )
