use Rattle.std.proofs.Common.{◌≡◌, ◌++◌, ◌∙◌, List, ℕ, ap}
use Rattle.fibs_engine.proofs.OkLemmas.{on_ok_weaker}
use Rattle.fibs_engine.specs.Printing.{line_bytes}
use Rattle.fibs_model.specs.EntryOf.{entry_of}
use Rattle.fibs_replay.specs.LogLines.{entry_line}
use Rattle.fibs_json.specs.Lines.{opening}
use Rattle.fibs_cli.specs.Entries.{entry_kind}
use Rattle.fibs_cli.proofs.objects.entries.append_opening.Goals as goal

pub returns : goal.returns
returns c =
    let e = entry_of c.args.entry.now in
    let old = c.args.text.now.items in
    let line : c.without_end.result.now ≡ entry_line e =
    c.without_end.ensures (entry_line e) (c.as_slice.ensures.value ∙ c.append_entry.ensures
    ∙ ap (λ (l : List ℕ). l ++ line_bytes (entry_line e)) c.new-line.ensures) in
    on_ok_weaker c.append_front.result
    (λ h. h ∙ ap (λ (l : List ℕ). old ++ opening l c.without_end.result.now) c.kind_of.ensures
    ∙ ap (λ (l : List ℕ). old ++ opening (entry_kind e) l) line)
    c.append_front.ensures
