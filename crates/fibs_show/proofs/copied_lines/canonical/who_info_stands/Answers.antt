use Rattle.std.proofs.Common.{None}
use Rattle.fibs_fields.specs.Field.{a_tail}
use Rattle.fibs_messages.specs.Message.{table}
use Rattle.fibs_show.proofs.LineLemmas.StandingFields.{ends_after, field_stands, none_stand, stands_before}
use Rattle.fibs_show.proofs.copied_lines.canonical.who_info_stands.Goals as goal

pub returns : goal.returns
unfolding table
returns c =
    let email = c.in_ok-email.email.now in
    let len = c.in_ok-tail_len in
    stands_before c.in_ok-opponent.ensures
    (stands_before c.in_ok-watching.ensures
    (stands_before c.in_ok-ready.ensures
    (stands_before c.in_ok-away.ensures
    (stands_before c.in_ok-rating.ensures
    (stands_before c.in_ok-experience.ensures
    (stands_before c.in_ok-idle.ensures
    (stands_before c.in_ok-login.ensures
    (stands_before c.in_ok-hostname.ensures
    (stands_before c.in_ok-client.ensures
    (stands_before c.in_ok-email.ensures
    (stands_before
    (field_stands a_tail email len.field-0 None len.ensures.begins (ends_after email len.field-0 len.ensures.whole))
    (none_stand None))))))))))))
