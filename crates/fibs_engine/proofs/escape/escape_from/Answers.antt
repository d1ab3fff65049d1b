use Rattle.fibs_engine.proofs.EscapeLemmas.{escaped_unchanged}
use Rattle.fibs_engine.proofs.escape.escape_from.Goals as goal

pub returns-then-not-has_escaped : goal.returns-then-not-has_escaped
returns-then-not-has_escaped c =
    escaped_unchanged c.args.text.now.items c.deref.result.now c.args.start c.has_escaped.result c.deref.ensures.value
    c.has_escaped.ensures c.if-not-has_escaped.true
