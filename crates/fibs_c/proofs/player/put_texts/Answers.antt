-- What follows all texts is as it was, since it was so behind each.
use Rattle.std.proofs.Common.{arith, length, ap, ◌∙◌}
use Rattle.fibs_messages.specs.Directory.View.{player_value}
use Rattle.fibs_c.specs.PlayerDoor.{texts_in}
use Rattle.fibs_c.proofs.PlayerLemmas.{six_lengths}
use Rattle.fibs_c.proofs.player.put_texts.Goals as goal

pub returns-clause-rest : goal.returns-clause-rest
returns-clause-rest c =
    let p = c.args.player.now in
    let n = length (texts_in (player_value p)) in
    let total =
    six_lengths p.name.items p.opponent.items p.watching.items p.hostname.items p.client.items p.email.items in
    c.put_part-email.ensures.rest n
    (omega (
      arith,
      total,
      ap length c.as_slice.ensures.value,
      ap length c.as_slice-2.ensures.value,
      ap length c.as_slice-3.ensures.value,
      ap length c.as_slice-4.ensures.value,
      ap length c.as_slice-5.ensures.value,
      ap length c.as_slice-6.ensures.value,
      c.put_part-name.ensures.len,
      c.put_part-opponent.ensures.len,
      c.put_part-opponent.ensures.start,
      c.put_part-watching.ensures.len,
      c.put_part-watching.ensures.start,
      c.put_part-hostname.ensures.len,
      c.put_part-hostname.ensures.start,
      c.put_part-client.ensures.len,
      c.put_part-client.ensures.start,
    ))
    ∙ c.put_part-client.ensures.rest n
    (omega (
      arith,
      total,
      ap length c.as_slice.ensures.value,
      ap length c.as_slice-2.ensures.value,
      ap length c.as_slice-3.ensures.value,
      ap length c.as_slice-4.ensures.value,
      ap length c.as_slice-5.ensures.value,
      c.put_part-name.ensures.len,
      c.put_part-opponent.ensures.len,
      c.put_part-opponent.ensures.start,
      c.put_part-watching.ensures.len,
      c.put_part-watching.ensures.start,
      c.put_part-hostname.ensures.len,
      c.put_part-hostname.ensures.start,
    ))
    ∙ c.put_part-hostname.ensures.rest n
    (omega (
      arith,
      total,
      ap length c.as_slice.ensures.value,
      ap length c.as_slice-2.ensures.value,
      ap length c.as_slice-3.ensures.value,
      ap length c.as_slice-4.ensures.value,
      c.put_part-name.ensures.len,
      c.put_part-opponent.ensures.len,
      c.put_part-opponent.ensures.start,
      c.put_part-watching.ensures.len,
      c.put_part-watching.ensures.start,
    ))
    ∙ c.put_part-watching.ensures.rest n
    (omega (
      arith,
      total,
      ap length c.as_slice.ensures.value,
      ap length c.as_slice-2.ensures.value,
      ap length c.as_slice-3.ensures.value,
      c.put_part-name.ensures.len,
      c.put_part-opponent.ensures.len,
      c.put_part-opponent.ensures.start,
    ))
    ∙ c.put_part-opponent.ensures.rest n
    (omega (
      arith,
      total,
      ap length c.as_slice.ensures.value,
      ap length c.as_slice-2.ensures.value,
      c.put_part-name.ensures.len,
    ))
    ∙ c.put_part-name.ensures.rest n
    (omega (arith, total, ap length c.as_slice.ensures.value))
