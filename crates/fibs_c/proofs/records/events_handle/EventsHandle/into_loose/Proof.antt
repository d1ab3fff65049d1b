-- `into_loose` hands over the box if there is one.
use Rattle.std.proofs.Common.{◌≡◌, List, [], ◌∷◌, ◌++◌, refl, sym, ◌∙◌, lit<}
use Rattle.std.specs.Prelude.{None, Some, option_map}
use mir.Syntax.{Fn}
use mir.Val.{Val, vptr, vcons, vnil}
use base.Logic.{SProp, emp}
use base.Fml.{ftrue}
use prog.Wp.{WpFn}
use contract.Monad.{fact, fact_i}
use contract.Running.{tables}
use types.Kit.{‵, raw, ◌⊛◌, prop, at_ret, ◌$◌, ◌∵◌, !, qed, by, move, drop, use0, use1, split, regoal, fsplit, fjoin}
use types.Part.{agg, sub, whole}
use types.Run.{stop, fld, lit, of_opd, bin, no_more, and_then, first, branches, skips, exec, returns, returns_within, enter}
use types.ByLocal.{alloc_all, pass_all, free_all, look_at, get, get_in, sets, env}
use types.Match.{live}
use denote.Exit.{yes}
use denote.RattleType.{RattleType, owns}
use denote.RawPtr.{block_ptr, null_ptr, tests_null}
use denote.Signature.{types_at, type_at, plain}
use denote.Steps.{nothing}
use denote.Param.{layout}
use denote.Triple.Entry.{alive}
use denote.Triple.Walked.{Stays, stay_dropped, walk_of}
use Rattle.core.proofs.alloc.Calls.{Goes-blank}
use Rattle.core.proofs.alloc.Shapes.{after}
use Rattle.core.proofs.cell.Inside.{Good}
use Rattle.core.proofs.option.Made.{Some-of, none_of}
use Rattle.std_alloc.proofs.ResultValues.{and_tt}
use Rattle.std.specs.contracts.alloc.Global as heap
use Rattle.std.proofs.alloc.Global.TheLaws as heap_laws
use Rattle.std.specs.contracts.impls.GlobalAllocator.TheImpl.{ghosts}
use Rattle.std.proofs.raw_atomic.Walks.{proved_at, leaves}
use Rattle.fibs_c.proofs.LooseValues.{both, Loose, loose_good, loose_in}
use Rattle.fibs_c.proofs.HandleValues.{held_val, held_told, held_typed, held_split, heap_tells, ptr_typed}
use Rattle.fibs_c.specs.contracts.records.events_handle.EventsHandle as held
use Rattle.fibs_c.specs.contracts.records.listener.Listener as inner
use Rattle.fibs_c.specs.contracts.records.events_handle.EventsHandle.into_loose.{ended, clauses}
use Rattle.fibs_c.specs.contracts.records.events_handle.EventsHandle.into_loose.Key.{name as #self}
use Rattle.fibs_c.proofs.records.events_handle.EventsHandle.into_loose.Statement.{statement}
use Rattle.fibs_c.proofs.records.events_handle.EventsHandle.into_loose.Code as code

pub into_loose_spec : {M : Type 1} → statement M
into_loose_spec 𝓤 𝓛 𝓜 𝓡 wired =
    let H = 𝓛.H in
    let En = ended in
    let c = clauses 𝓛 𝓜.mem 𝓡.returns in
    let fn : Fn = code.function in
    let R : RattleType = inner.the_row in let Z : RattleType = heap.the_row in
    let LZ = heap_laws.the_row_laws in let g = ghosts in
    let Lr : RattleType = Loose R Z LZ g in
    let stays : Stays En.signature.params En.kept =
    (stay_dropped (plain (λ _. held.the_row)) yes, (stay_dropped (plain (λ _. Z)) yes, tt)) in
    let 𝓣 = tables 𝓤 H 𝓜 𝓡 𝓡.env in
    proved_at 𝓛 En stays c 𝓜 𝓡 (
      Goes-blank 𝓛 0 (plain (λ _. held.the_row)) yes (λ κs x f. tt),
      (Goes-blank 𝓛 0 (plain (λ _. Z)) yes (λ κs x f. tt), tt),
    ) #self fn (code.unfolded 𝓤 H 𝓜 𝓡 wired) (λ z are.
    let Post : Val → SProp 𝓤 = (walk_of 𝓛 En stays c).post z in
    let Out : RattleType = type_at En.signature.result z.0.0 in
    let d = z.0.3.0 in let a = z.0.3.1.0 in
    let told = held_told d.at z.0.4.0 are.0.0 in
    qed 𝓛 ((raw (alive 𝓛 En.signature z.0.0 z.0.1) ⊛ ‵ (owns (types_at En.signature.params z.0.0) z.0.3 z.0.4)) ∷ ‵
    ftrue ∷ []) ∵ move ! (1 ∷ []) $ drop ! $ split ! $ move ! (1 ∷ []) $ fsplit ! $
    -- [the handle; the allocator and no more; the tokens]
    fsplit ! $ drop ! $ move ! (1 ∷ []) $ fsplit ! $ move ! (1 ∷ []) $ drop ! $
    heap_tells ! a z.0.4.1.0 (λ h ea gh. move ! (1 ∷ []) $
    held_split R ! a d.at d.value
    (λ b o x ep ev t.
    let made : Val = both (vptr b o) h in let typed = loose_good R Z LZ g b o h gh in
    let v₁ : Val = live 1 (vcons made vnil) in
    let l : Lr.Denot = record { at = block_ptr b o; alloc = a; value = x } in
    let good : Good (layout Out) v₁ = (and_tt _ typed.0, (record { fits = lit< tt }, (typed.1, tt))) in
    let Said : Type 0 = option_map (λ (k : Lr.Denot). k.value) (Some l) ≡ d.value in
    regoal ! (λ (us : List Val). prop (WpFn 𝓤 H 𝓣.C 𝓣.Λ fn us Post))
    (λ i. (told ∙ (λ j. held_val (ep j) ∷ [])) i ++ (ea i ++ [])) refl $
    enter ! 𝓣.C 𝓣.Λ fn (held_val (block_ptr b o) ∷ h ∷ []) Post $
    alloc_all ! (λ n. pass_all ! refl (held_typed (block_ptr b o), (gh, tt)) $
    sets ! (of_opd ! (get_in ! (fld ! refl (stop !)) (sub ! 0 refl (whole !)))) refl (tt, tt) $
    sets ! (bin ! (get ! refl) (lit ! tt) (tests_null (block_ptr b o) t)) refl (tt, tt) $
    first ! $ branches ! (get ! refl) (λ wrong. absurd wrong)
    (λ _. skips ! $ exec ! 𝓣.C 𝓣.Λ (env fn.locals n) (after 3 fn.body) (at_ret (env fn.locals n) Post) $
    sets ! (of_opd ! (get ! refl)) refl (tt, tt) $
    sets ! (agg ! (and_then ! (get ! refl) (and_then ! (get ! refl) (no_more !)))) refl typed $
    sets ! (agg ! (and_then ! (lit ! tt) (and_then ! (get ! refl) (no_more !)))) refl good $
    returns ! (look_at ! 0 refl) $ free_all ! refl $
    -- [the box; the allocator; the tokens]
    loose_in R Z LZ g ! b o h a x $ use1 𝓛 (‵ (Out.own_val (Some l) (v₁ ∷ []))) (Some-of 𝓛 Lr l made) $
    use0 𝓛 (raw (fact 𝓤 Said)) (fact_i 𝓤 Said (emp 𝓤) (sym ev)) $ nothing ! $ nothing ! $ fjoin ! $ nothing ! $
    fjoin ! $ move ! (3 ∷ 0 ∷ 2 ∷ 1 ∷ []) $
    by ! (leaves 𝓛 En stays c z v₁ (Some l) (tt, (tt, tt)) (tt, (tt, tt))))))
    (λ ep ev.
    let Said : Type 0 = option_map (λ (k : Lr.Denot). k.value) None ≡ d.value in
    regoal ! (λ (us : List Val). prop (WpFn 𝓤 H 𝓣.C 𝓣.Λ fn us Post))
    (λ i. (told ∙ (λ j. held_val (ep j) ∷ [])) i ++ (ea i ++ [])) refl $
    enter ! 𝓣.C 𝓣.Λ fn (held_val null_ptr ∷ h ∷ []) Post $
    alloc_all ! (λ n. pass_all ! refl (held_typed null_ptr, (gh, tt)) $
    sets ! (of_opd ! (get_in ! (fld ! refl (stop !)) (sub ! 0 refl (whole !)))) refl (ptr_typed null_ptr) $
    sets ! (bin ! (get ! refl) (lit ! tt) tt) refl (tt, tt) $
    first ! $ branches ! (get ! refl)
    (λ _. sets ! (agg ! (and_then ! (lit ! tt) (no_more !))) refl (tt, (record { fits = lit< tt }, tt)) $
    returns_within ! Post refl (look_at ! 0 refl) $ free_all ! refl $
    -- [the allocator; the tokens]
    drop ! $ use0 𝓛 (‵ (Out.own_val None (live 0 vnil ∷ []))) (none_of 𝓛 Lr) $
    use0 𝓛 (raw (fact 𝓤 Said)) (fact_i 𝓤 Said (emp 𝓤) (sym ev)) $ nothing ! $ nothing ! $ fjoin ! $ nothing ! $
    fjoin ! $ move ! (3 ∷ 0 ∷ 2 ∷ 1 ∷ []) $
    by ! (leaves 𝓛 En stays c z (live 0 vnil) None (tt, (tt, tt)) (tt, (tt, tt))))
    (λ wrong. absurd wrong)))))
