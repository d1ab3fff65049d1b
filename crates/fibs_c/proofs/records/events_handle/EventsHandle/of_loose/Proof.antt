-- `of_loose` takes over what the pointer owns.
use Rattle.std.proofs.Common.{◌≡◌, List, [], ◌∷◌, ◌++◌, refl, sym, subst}
use Rattle.std.specs.Prelude.{Some}
use mir.Syntax.{Fn}
use mir.Val.{Val, vptr}
use base.Logic.{SProp, emp, ent, id⊢}
use base.Fml.{ftrue}
use prog.Wp.{WpFn}
use contract.Monad.{fact, fact_i}
use contract.Running.{tables}
use types.Kit.{‵, raw, ◌⊛◌, ◌$◌, ◌∵◌, !, qed, by, move, drop, use0, split, fsplit, fjoin, suffices}
use types.Part.{agg, sub, whole}
use types.Run.{stop, fld, of_opd, no_more, and_then, returns, enter}
use types.ByLocal.{alloc_all, pass_all, free_all, look_at, get, get_in, sets}
use denote.Exit.{yes}
use denote.RattleType.{RattleType, owns}
use denote.RawPtr.{block_ptr}
use denote.Signature.{types_at, plain}
use denote.Steps.{nothing}
use denote.Triple.Entry.{alive}
use denote.Triple.Walked.{Stays, stay_dropped, walk_of}
use Rattle.core.proofs.alloc.Calls.{Goes-blank}
use Rattle.std.specs.contracts.alloc.Global as heap
use Rattle.std.proofs.alloc.Global.TheLaws as heap_laws
use Rattle.std.specs.contracts.impls.GlobalAllocator.TheImpl.{ghosts}
use Rattle.std.proofs.raw_atomic.Walks.{proved_at, leaves}
use Rattle.fibs_c.proofs.LooseValues.{both, Loose, loose_good, loose_out}
use Rattle.fibs_c.proofs.HandleValues.{held_val, held_own, held_made, held_typed}
use Rattle.fibs_c.specs.contracts.records.events_handle.EventsHandle as held
use Rattle.fibs_c.specs.contracts.records.listener.Listener as inner
use Rattle.fibs_c.specs.contracts.records.events_handle.EventsHandle.of_loose.{ended, clauses}
use Rattle.fibs_c.specs.contracts.records.events_handle.EventsHandle.of_loose.Key.{name as #self}
use Rattle.fibs_c.proofs.records.events_handle.EventsHandle.of_loose.Statement.{statement}
use Rattle.fibs_c.proofs.records.events_handle.EventsHandle.of_loose.Code as code

pub of_loose_spec : {M : Type 1} → statement M
of_loose_spec 𝓤 𝓛 𝓜 𝓡 wired =
    let H = 𝓛.H in
    let En = ended in
    let c = clauses 𝓛 𝓜.mem 𝓡.returns in
    let fn : Fn = code.function in
    let R : RattleType = inner.the_row in let Z : RattleType = heap.the_row in
    let LZ = heap_laws.the_row_laws in let g = ghosts in
    let stays : Stays En.signature.params En.kept = (stay_dropped (plain (λ _. Loose R Z LZ g)) yes, tt) in
    let 𝓣 = tables 𝓤 H 𝓜 𝓡 𝓡.env in
    proved_at 𝓛 En stays c 𝓜 𝓡 (Goes-blank 𝓛 0 (plain (λ _. Loose R Z LZ g)) yes (λ κs x f. tt), tt) #self fn
    (code.unfolded 𝓤 H 𝓜 𝓡 wired) (λ z are.
    let Post : Val → SProp 𝓤 = (walk_of 𝓛 En stays c).post z in
    let Run : List Val → SProp 𝓤 = λ ws. WpFn 𝓤 H 𝓣.C 𝓣.Λ fn ws Post in
    let v = z.0.3.0 in
    qed 𝓛 ((raw (alive 𝓛 En.signature z.0.0 z.0.1) ⊛ ‵ (owns (types_at En.signature.params z.0.0) z.0.3 z.0.4)) ∷ ‵
    ftrue ∷ []) ∵ move ! (1 ∷ []) $ drop ! $ split ! $ move ! (1 ∷ []) $ fsplit ! $
    loose_out R Z LZ g ! v z.0.4.0 (λ b o h e ws fits.
    let w : Val = both (vptr b o) h in let typed = loose_good R Z LZ g b o h fits in
    let x : (held.the_row).Denot = record { at = block_ptr b o; value = Some v.value } in
    let Said : Type 0 = x.value ≡ Some v.value in
    -- [the box; the handle; nothing; the tokens]
    move ! (1 ∷ []) $ drop ! $ move ! (1 ∷ []) $ drop ! $
    suffices ! (Run (w ∷ [])) (subst (λ (us : List Val). ent 𝓤 (Run (w ∷ [])) (Run us)) (sym (λ i. ws i ++ []))
    (id⊢ 𝓤 (Run (w ∷ [])))) $
    enter ! 𝓣.C 𝓣.Λ fn (w ∷ []) Post $
    alloc_all ! (λ l. pass_all ! refl (typed, tt) $
    sets ! (of_opd ! (get_in ! (fld ! refl (stop !)) (sub ! 0 refl (whole !)))) refl (tt, tt) $
    sets ! (of_opd ! (get ! refl)) refl (tt, tt) $
    sets ! (agg ! (and_then ! (get ! refl) (no_more !))) refl
    (held_typed (block_ptr b o)) $
    returns ! (look_at ! 0 refl) $ free_all ! refl $
    use0 𝓛 (‵ (held_own (block_ptr b o) (held_val (block_ptr b o) ∷ []))) (held_made 𝓛 (block_ptr b o)) $
    fjoin ! $
    use0 𝓛 (raw (fact 𝓤 Said)) (fact_i 𝓤 Said (emp 𝓤) refl) $ nothing ! $ nothing ! $ fjoin ! $
    move ! (3 ∷ 0 ∷ 2 ∷ 1 ∷ []) $
    by ! (leaves 𝓛 En stays c z (held_val (block_ptr b o)) x (tt, tt) (tt, tt)))))
