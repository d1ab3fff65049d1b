use Rattle.std.proofs.Common.{rules, ◌≡◌}
use Rattle.fibs_fields.specs.StoredBoard.{fields_of}
use Rattle.fibs_position.proofs.BoardLemmas.GamePartGroups.{same_from_groups, groups_from_same}
use Rattle.fibs_position.proofs.game_part.is_same_game.Goals as goal

pub returns-then-eq : goal.returns-then-eq
returns-then-eq c =
    let a = fields_of c.args.a.now in
    let b = fields_of c.args.b.now in
    let name : a.opponent ≡ b.opponent = search rules in (
      λ t. let same = c.same_numbers.ensures.0 t in same_from_groups a b name same.0 same.1 same.2 same.3,
      λ e. c.same_numbers.ensures.1 (groups_from_same a b e).1,
    )
