use Rattle.std.proofs.Common.{None}
use Rattle.fibs_fields.specs.Field.{a_text}
use Rattle.fibs_show.proofs.LineLemmas.StandingFields.{ends_after, field_stands, none_stand, stands_before}
use Rattle.fibs_show.proofs.copied_lines.canonical.name_and_text_stand.Goals as goal

pub returns : goal.returns
returns c =
    let text = c.in_ok-text.text.now in
    let len = c.in_ok-text_len in
    stands_before c.in_ok-text.ensures
    (stands_before
    (field_stands a_text text len.field-0 None len.ensures.begins (ends_after text len.field-0 len.ensures.whole))
    (none_stand None))
