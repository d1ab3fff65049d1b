use Rattle.std.proofs.Common.{◌≡◌, ℕ, List, Option, None, ap, sym, subst, ◌∙◌}
use Rattle.fibs_fields.specs.Split.{after, seen}
use Rattle.fibs_messages.specs.Message.{kept, kinds_of}
use Rattle.fibs_show.specs.Standing.{AllStand}
use Rattle.fibs_show.proofs.LineLemmas.StandingFields.{standing_line}
use Rattle.fibs_show.proofs.copied_lines.canonical.message_line.Goals as goal

pub returns-then-fields_stand : goal.returns-then-fields_stand
returns-then-fields_stand c =
    let n = c.args.number in
    let line = c.args.line.now in
    let fields : seen c.split.result.1 ≡ after 32 (kept n line) =
    c.split.ensures.after ∙ ap (after 32) c.kept-kept.ensures in
    let all : AllStand (kinds_of n) (after 32 (kept n line)) None =
    subst (λ (o : Option (List ℕ)). AllStand (kinds_of n) o None) fields
    (c.fields_stand.ensures c.if-fields_stand.true) in
    let says = standing_line line n (sym c.requires.number) all in
    (says.0, says.1, c.kept-kept.ensures ∙ says.2)
