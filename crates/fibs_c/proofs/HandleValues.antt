-- The machine values of a handle: what is owned determines them.
use Rattle.std.proofs.Common.{◌≡◌, ℕ, List, [], ◌∷◌, ◌++◌, refl, ◌∙◌, lit<}
use Rattle.std.specs.Prelude.{Option, None, Some}
use seplogic.Ra.Ura.{Ura}
use mir.Syntax.{ty_ptr, ty_struct, tcons, tnil, impl, dnil}
use mir.Raw.{raw as bare}
use mir.Val.{Val, vstruct, vcons, vnil, of_list}
use base.Logic.{ent, emp, guard, guard_i, never, never_e, fst∗, snd∗, via}
use base.Fml.{Fml, ftrue}
use contract.Monad.{fact_use}
use types.Logic.{Logic, sem}
use types.Kit.{Item, Goal, Seq, ‵, given, ◌$◌, drop, use1, learn}
use denote.RattleType.{RattleType}
use denote.Memory.{lone}
use denote.Param.{layout}
use denote.RawPtr.{Ptr, RawPtr, block_ptr, null_ptr, ptr_val, in_a_block, Testable}
use denote.Shadow.{shadow, makes_shadow}
use denote.Struct.Struct.{Struct}
use Rattle.core.proofs.cell.Inside.{Good}
use Rattle.core.proofs.alloc.Calls.{Al, handle_tells}
use Rattle.core.specs.Ptr.{points_to}
use Rattle.libc.specs.Heap.{chunk}
use Rattle.std_alloc.specs.Box.Ownership.{box_owns}
use Rattle.std.specs.contracts.alloc.Global as heap
use Rattle.std.specs.declared.alloc.Global.{Global}
use Rattle.std.proofs.alloc.Global.TheLaws as heap_laws
use Rattle.std.proofs.GlobalToken.{dealloc_token-Testable}
use Rattle.std.specs.contracts.impls.GlobalAllocator.TheImpl.{ghosts}
use Rattle.fibs_c.specs.Records.Handles.{maybe_owns}

-- the value of a handle: a structure with one pointer
abbrev pub held_val : Ptr → Val
held_val p = vstruct (vcons (ptr_val p) vnil)

-- that the handle has that pointer
abbrev pub held_own : Ptr → List Val → Fml
held_own p = (Struct (record { name = []; args = []; types = []; fields = RawPtr ∷ [] })).own_val (p, tt)

-- a handle that has a pointer is its value
pub held_told : (p : Ptr) (vs : List Val) → shadow (held_own p vs) → vs ≡ held_val p ∷ []
held_told p vs s = s.1.0 ∙ (λ i. vstruct (of_list (s.1.1.0 i ++ [])) ∷ [])

-- the value of a handle has its pointer, which takes nothing
pub held_made : {M : Type 1} {𝓤 : Ura M} (𝓛 : Logic 𝓤) (p : Ptr)
    → ent 𝓤 (emp 𝓤) (sem 𝓛 (held_own p (held_val p ∷ [])))
held_made 𝓛 p = makes_shadow 𝓛 (held_own p (held_val p ∷ [])) (λ _. (tt, (tt, tt)))
    ((ptr_val p ∷ [], tt), (refl, (refl, tt)))

-- a pointer, or null, is of the type of pointers
pub ptr_typed : (p : Ptr) → Good ty_ptr (ptr_val p)
ptr_typed (block_ptr b o) = (tt, tt)
ptr_typed null_ptr = (tt, record { fits = lit< tt })

-- the value of a handle is of the type of structures with one pointer
pub held_typed : (p : Ptr) → Good (ty_struct [] (tcons ty_ptr tnil)) (held_val p)
held_typed (block_ptr b o) = (tt, (tt, tt))
held_typed null_ptr = (tt, (record { fits = lit< tt }, tt))

-- the allocator of the heap
abbrev pub heap_row : RattleType
heap_row = heap.the_row

-- that allocator with its laws
abbrev heap_al : Al
heap_al = record {
  row = heap_row;
  laws = heap_laws.the_row_laws;
  g = ghosts;
  d = impl [] tnil dnil;
  drops = impl [] tnil dnil;
}

-- the pointer of a box may be compared with null
tested : {M : Type 1} {𝓤 : Ura M} (𝓛 : Logic 𝓤) (R : RattleType) (a : Global) (p : Ptr) (x : R.Denot)
    → ent 𝓤 (sem 𝓛 (box_owns chunk R p x)) (guard 𝓤 (Testable p) (sem 𝓛 (box_owns chunk R p x)))
tested {𝓤 = 𝓤} 𝓛 R a p x =
    fact_use 𝓤 (Testable p)
    (via 𝓤 _ (snd∗ 𝓤 (sem 𝓛 (points_to R p x)) (sem 𝓛 (chunk (bare (lone R.mir)) p)))
    (dealloc_token-Testable 𝓛 a (bare (lone R.mir)) p))
    (guard_i 𝓤 (Testable p) (sem 𝓛 (box_owns chunk R p x)))

module _ {M : Type 1} {𝓤 : Ura M} {𝓛 : Logic 𝓤} {K : Type 0} {Γ : List (Item 𝓤)} {G : Goal 𝓤 𝓛.H} where
  -- what is owned of the allocator is one machine value
  pub heap_tells : K → (a : heap_row.Denot) (vs : List Val)
      → ((h : Val) → vs ≡ h ∷ [] → Good (layout heap_row) h → Seq K 𝓛 (‵ (heap_row.own_val a (h ∷ [])) ∷ Γ) G)
      → Seq K 𝓛 (‵ (heap_row.own_val a vs) ∷ Γ) G
  heap_tells t a vs k = handle_tells heap_al t a vs k

  module _ (R : RattleType) where
    -- either there is a value in a block, or there is none and the pointer is null
    pub held_split : K → Global → (p : Ptr) (v : Option R.Denot)
        → ((b o : ℕ) (x : R.Denot) → p ≡ block_ptr b o → v ≡ Some x → Testable (block_ptr b o)
        → Seq K 𝓛 (‵ (box_owns chunk R (block_ptr b o) x) ∷ Γ) G)
        → (p ≡ null_ptr → v ≡ None → Seq K 𝓛 Γ G)
        → Seq K 𝓛 (‵ (maybe_owns chunk R p v) ∷ Γ) G
    held_split k a p (Some x) some none =
        in_a_block k p (λ q. box_owns chunk R q x) (fst∗ 𝓤 (never 𝓤) (sem 𝓛 (chunk (bare (lone R.mir)) null_ptr)))
        (λ b o e. use1 𝓛 (given (Testable (block_ptr b o)) (‵ (box_owns chunk R (block_ptr b o) x)))
        (tested 𝓛 R a (block_ptr b o) x) $ learn k (λ t. some b o x e refl t))
    held_split k a (block_ptr b o) None some none = use1 𝓛 (given ⊥ (‵ ftrue)) (never_e 𝓤 _) $ learn k (λ z. absurd z)
    held_split k a null_ptr None some none = drop k $ none refl refl
