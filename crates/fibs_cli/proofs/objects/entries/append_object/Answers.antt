use Rattle.std.proofs.Common.{◌++◌, ◌∙◌, List, ℕ, ap, append_assoc, codes, refl}
use Rattle.fibs_engine.proofs.OkLemmas.{on_ok_weaker}
use Rattle.fibs_model.specs.EntryOf.{entry_of}
use Rattle.fibs_replay.specs.LogLines.{entry_line}
use Rattle.fibs_json.specs.Json.{member, more_member, whole}
use Rattle.fibs_json.specs.Lines.{object_with}
use Rattle.fibs_cli.specs.Entries.{entry_connection, entry_kind}
use Rattle.fibs_cli.proofs.LogLemmas.{closed}
use Rattle.fibs_cli.proofs.objects.entries.append_object.Goals as goal

pub returns : goal.returns
returns c =
    let e = entry_of c.args.entry.now in
    let one = c.append_opening.new.text.items in
    let connection : List ℕ = more_member (member (codes "connection") (whole (entry_connection e))) in
    let h = c.in_ok-append_rest.ensures in
    on_ok_weaker c.append_end.result
    (λ last. (
      object_with (entry_kind e) (entry_line e) (connection ++ h.0),
      (h.0, h.1, refl),
      closed c.args.text.now.items (entry_kind e) (entry_line e) (connection ++ h.0) one c.append_rest.new.text.items
          c.append_end.new.text.items c.in_ok-append_opening.ensures
          (h.2 ∙ ap (λ (l : List ℕ). l ++ h.0) c.in_ok-append_connection.ensures ∙ append_assoc one connection h.0)
          last,
    ))
    c.append_end.ensures
