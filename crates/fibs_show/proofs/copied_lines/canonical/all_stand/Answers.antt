use Rattle.std.proofs.Common.{◌≡◌, ◌+◌, [], ◌∷◌, ◌++◌, List, get_or, take, Some, sym, ap, subst, ◌∙◌}
use Rattle.std.proofs.lemmas.List.{take_more, map-append}
use Rattle.fibs_fields.specs.Field.{Kind}
use Rattle.fibs_fields.specs.Split.{seen}
use Rattle.fibs_show.specs.Standing.{kind_seen, kinds_seen, AllStand}
use Rattle.fibs_show.specs.declared.copied_lines.canonical.FieldKind.TheVariants.{Name}
use Rattle.fibs_show.proofs.LineLemmas.StandingFields.{one_more_stands}
use Rattle.fibs_show.proofs.copied_lines.canonical.all_stand.Goals as goal

pub loop-kind-preserved : goal.loop-kind-preserved
loop-kind-preserved c =
    let kinds = c.args.kinds.now in
    let i = c.loop-kind.kind-index in
    let kind = get_or kinds i Name in
    let more : kinds_seen (take i kinds) ++ kind_seen kind ∷ [] ≡ kinds_seen (take (i + 1) kinds) =
    sym (ap kinds_seen (take_more kinds i Name c.loop-kind-test.true)
    ∙ map-append kind_seen (take i kinds) (kind ∷ [])) in
    subst (λ (ks : List Kind). AllStand ks (seen c.args.fields) (seen c.in-Some-next_field.after)) more
    (one_more_stands (kinds_seen (take i kinds)) (kind_seen kind) (seen c.args.fields) (Some c.in-Some.text.now)
    (seen c.in-Some-next_field.after)
    (subst (λ o. AllStand (kinds_seen (take i kinds)) (seen c.args.fields) o) (ap seen c.in-Some.is)
    c.loop-kind.invariant)
    c.in-Some-next_field.ensures)
