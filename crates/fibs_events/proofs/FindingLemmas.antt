-- Why a play is found if there is one.
use Rattle.std.proofs.Common.{◌≡◌, ◌∙◌, sym, ap, subst, List, map, Option, Some, None}
use Rattle.std.specs.Prelude.{unwrap_or, IfNone}
use Rattle.std.specs.List.{All}
use Rattle.std.proofs.lemmas.List.Elements.{All-map, All-contains}
use Rattle.fibs_rules.specs.Hop.{Hop}
use Rattle.fibs_rules.specs.LegalPlays.{IsGreatest}
use Rattle.fibs_rules.specs.PlayValue.{hops_of}
use Rattle.fibs_rules.specs.declared.play.Play.{Play}
use Rattle.fibs_position.specs.Phases.{InPhase}
use Rattle.fibs_position.specs.PlaysOf.{PlaysIn}
use Rattle.fibs_position.specs.PositionValue.{PositionValue}
use Rattle.fibs_position.specs.declared.phase.Phase.TheVariants.{Move}

-- an option is not both empty and full
pub nothing_is_something : {X : Type 0} {o : Option X} {x : X} → None ≡ o → o ≡ Some x → ⊥
nothing_is_something is some = absurd cc

-- what is something is it
pub something_is_it : {X : Type 0} {o : Option X} {x y : X} → o ≡ Some x → o ≡ Some y → y ≡ x
something_is_it {X} {o} {x} {y} one other = ap (λ o. unwrap_or o x) (sym other ∙ one)

-- what is true of each play that is listed is true of each greatest play
pub of_each_greatest : (p : PositionValue) (plays seen : List Play) (P : List Hop → Type 0)
    → PlaysIn p (map hops_of plays) → InPhase p Move → seen ≡ plays → All (λ play. P (hops_of play)) seen
    → (steps : List Hop) → IsGreatest p.standing steps → P steps
of_each_greatest p plays seen P listed moving same all steps greatest =
    let listed_all = subst (λ (l : List Play). All (λ play. P (hops_of play)) l) same all in
    All-contains P (map hops_of plays) steps (All-map P hops_of plays listed_all)
    (((listed.move moving).each steps).1 greatest)

-- if there is nothing, what follows from what is true then is true too
pub if_none_then : {X : Type 0} (o : Option X) (A B : Type 0) → (A → B) → IfNone o A → IfNone o B
if_none_then None A B then is = then is
if_none_then (Some x) A B then is = is
