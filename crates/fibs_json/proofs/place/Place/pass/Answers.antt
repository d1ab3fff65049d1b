use Rattle.std.proofs.Common.{rules, refl, sym, ◌∙◌}
use Rattle.fibs_json.proofs.PlaceLemmas.{place_ends_some, place_passes_none}
use Rattle.fibs_json.proofs.place.Place.pass.Goals as goal

pub returns-then-is_some : goal.returns-then-is_some
returns-then-is_some c = λ s piece at feeds.
    place_ends_some c.args.self.now _ s piece c.args.fed.now c.args.fed.now.line refl
    (sym c.is_some.ensures ∙ c.if-is_some.true) at feeds (search rules) refl (search rules)

pub returns-else-is_some : goal.returns-else-is_some
returns-else-is_some c = λ s piece at feeds.
    place_passes_none c.args.self.now _ s piece c.args.fed.now c.args.fed.now.line refl
    (sym c.is_some.ensures ∙ c.if-is_some.false) at feeds refl refl (search rules)
