use Rattle.std.proofs.Common.{◌≡◌, ◌+◌, ◌-◌, sym, ap, ◌∙◌, arith}
use Rattle.std.specs.Int.{cast_unsigned, w32}
use Rattle.std.proofs.lemmas.Int.{ints}
use Rattle.fibs_fields.specs.Board.{field_of}
use Rattle.fibs_fields.specs.StoredBoard.{fields_of}
use Rattle.fibs_position.proofs.BoardLemmas.NumberRanges.{agree_at, agree_more}
use Rattle.fibs_position.proofs.game_part.agree.Goals as goal

pub returns-then-field : goal.returns-then-field
returns-then-field c =
    let a = field_of (fields_of c.args.a.now) in
    let b = field_of (fields_of c.args.b.now) in
    let n = c.loop-n.n in (
      λ t. absurd cc,
      λ same. absurd
          (c.if-field.true
          (ap (cast_unsigned w32)
          (c.field.ensures.value
          ∙ agree_at a b c.args.first (c.args.last + 1 - c.args.first) n c.loop-n.auto.n (omega arith) same
          ∙ sym c.field-in-loop-n.ensures.value))),
    )

pub loop-n-preserved : goal.loop-n-preserved
loop-n-preserved c =
    let a = field_of (fields_of c.args.a.now) in
    let b = field_of (fields_of c.args.b.now) in
    let found = c.field.ensures.value in
    let other = c.field-in-loop-n.ensures.value in
    let equal : c.field.result ≡ c.field-in-loop-n.result = omega (arith, ints) in
    agree_more a b c.args.first c.loop-n.n c.loop-n.auto.n (sym found ∙ equal ∙ other) c.loop-n.invariant
