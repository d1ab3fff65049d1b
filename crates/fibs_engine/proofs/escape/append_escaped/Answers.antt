use Rattle.std.proofs.Common.{◌++◌, sym, ap, ◌∙◌}
use Rattle.fibs_engine.proofs.EscapeLemmas.{escaped_plain}
use Rattle.fibs_engine.proofs.OkLemmas.{on_ok_grown}
use Rattle.fibs_engine.proofs.escape.append_escaped.Goals as goal

pub returns-else-has_escaped : goal.returns-else-has_escaped
returns-else-has_escaped c =
    let plain = escaped_plain c.args.bytes.now (sym c.has_escaped.ensures ∙ c.if-has_escaped.false) in
    on_ok_grown c.extend_from_slice.result _ _ _ _ c.extend_from_slice.ensures.items
    (ap (λ l. c.args.text.now.items ++ l) (sym plain))
