use Rattle.std.proofs.Common.{◌≡◌, ℕ, List, [], ◌∷◌, Option, None, Some, ap, sym, subst, ◌∙◌}
use Rattle.fibs_fields.specs.Field.{a_name, a_text}
use Rattle.fibs_fields.specs.Split.{after, seen}
use Rattle.fibs_messages.specs.Message.{kept, kinds_of}
use Rattle.fibs_show.specs.Standing.{AllStand}
use Rattle.fibs_show.proofs.LineLemmas.StandingFields.{standing_line}
use Rattle.fibs_show.proofs.copied_lines.canonical.name_and_text_line.Goals as goal

pub returns : goal.returns
returns c =
    let n = c.args.number in
    let line = c.args.line.now in
    let rest = after 32 (kept n line) in
    let fields : Some c.in_ok-fields.fields.now ≡ rest =
    sym (ap seen c.in_ok-fields.was) ∙ c.split.ensures.after ∙ ap (after 32) c.kept-kept.ensures in
    let stand : AllStand (a_name ∷ a_text ∷ []) rest None =
    subst (λ (o : Option (List ℕ)). AllStand (a_name ∷ a_text ∷ []) o None) fields
    c.in_ok-name_and_text_stand.ensures in
    let all : AllStand (kinds_of n) rest None = subst (λ ks. AllStand ks rest None) (sym c.requires.kinds) stand in
    let says = standing_line line n (sym c.requires.number) all in
    (says.0, says.1, c.kept-kept.ensures ∙ says.2)
