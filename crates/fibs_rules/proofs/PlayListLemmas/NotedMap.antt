-- A map in which the greater play was written for an arrangement.
use Rattle.std.proofs.Common.{◌≡◌, List, [], Some, sym, ap, ◌∙◌, cond}
use Rattle.std.specs.Prelude.{option_map}
use Rattle.std.specs.HashMap.{HashMap, get}
use Rattle.std.specs.Map.{lookup}
use Rattle.std.proofs.lemmas.Bool.{cond_both, cond-true, cond-false}
use Rattle.fibs_rules.specs.Checkers.{Checkers}
use Rattle.fibs_rules.specs.PlayValue.{hops_of}
use Rattle.fibs_rules.specs.Search.{greater, nothing, noted, kept_in}
use Rattle.fibs_rules.specs.Reached.{checkers_eq, same_checkers}
use Rattle.fibs_rules.specs.ReachedValue.{reached_eq}
use Rattle.fibs_rules.specs.declared.play.Play.{Play}
use Rattle.fibs_rules.specs.declared.reached.Reached.{Reached}
use Rattle.fibs_rules.proofs.PlayListLemmas.AllTried.{reach}

-- a map whose entries have the greater of what was there and what is found
pub written : {S : Type 0} (before : HashMap Reached Play S) (entries : List (Reached × Play)) (k : Checkers)
    (new found : Play)
    → hops_of new ≡ greater (option_map hops_of (get reached_eq before (record { at = k }))) (hops_of found)
    → ((q : Checkers) → lookup (reached_eq (record { at = q })) entries
    ≡ cond (checkers_eq k q) (Some new) (get reached_eq before (record { at = q })))
    → (λ q. option_map hops_of (lookup (reached_eq (record { at = q })) entries))
    ≡ noted (kept_in before) (reach (hops_of found) k)
written before entries k new found one updates =
    let at : (q : Checkers) → option_map hops_of (lookup (reached_eq (record { at = q })) entries)
    ≡ noted (kept_in before) (reach (hops_of found) k) q =
    λ q. ap (option_map hops_of) (updates q)
    ∙ cond_both (checkers_eq k q) (Some new) (get reached_eq before (record { at = q }))
    (λ o. option_map hops_of o ≡ noted (kept_in before) (reach (hops_of found) k) q)
    (λ e. ap Some one ∙ ap (λ c. Some (greater (kept_in before c) (hops_of found))) (same_checkers k q e)
    ∙ sym (cond-true _ _ _ e))
    (λ e. sym (cond-false _ _ _ e)) in
    λ i q. at q i

-- an empty map keeps nothing
pub kept_none : {S : Type 0} (m : HashMap Reached Play S) → m.entries ≡ [] → kept_in m ≡ nothing
kept_none m e = ap (λ es q. option_map hops_of (lookup (reached_eq (record { at = q })) es)) e
