-- The last of a list are kept when one more comes; a name is in a list, or it is not.
use Rattle.std.proofs.Common.{◌≡◌, ◌≢◌, ◌++◌, ◌∷◌, ◌-◌, ◌+◌, ◌≤◌, ◌<◌, ℕ, List, [], true, false, length, take, take_all, drop, get_or, length-append, Vec, arith, subst, sym, ap, ◌∙◌}
use Rattle.std.proofs.lemmas.Bool.{false≢true}
use Rattle.std.proofs.lemmas.List.Elements.{All-more}
use Rattle.std.proofs.lemmas.Slice.Eq.{bytes_eq-Decides}
use Rattle.std.specs.Str.{bytes_eq}
use Rattle.std.specs.declared.alloc.Global.{Global}
use Rattle.fibs_terminal.specs.KeptLists.{IsAmong, IsNotAmong, last_of}

-- there is room for it
pub last_room : {X : Type 0} (most : ℕ) (xs : List X) (x : X) → length xs < most
    → xs ++ x ∷ [] ≡ last_of most (xs ++ x ∷ [])
last_room most xs x few =
    let none : 0 ≡ length (xs ++ x ∷ []) - most = omega (arith, length-append xs (x ∷ [])) in
    ap (λ n. drop n (xs ++ x ∷ [])) none

-- or the first one goes
pub last_pushed : {X : Type 0} (most : ℕ) (xs : List X) (x : X) (mid : List X) → mid ≡ drop 1 xs → 0 < most
    → most ≤ length xs → length xs ≤ most → mid ++ x ∷ [] ≡ last_of most (xs ++ x ∷ [])
last_pushed most [] x mid rest some full few = absurd (omega (arith, some, full))
last_pushed most (y ∷ ys) x mid rest some full few =
    let one : 1 ≡ length (y ∷ ys ++ x ∷ []) - most = omega (arith, full, few, length-append ys (x ∷ [])) in
    ap (λ m. m ++ x ∷ []) rest ∙ ap (λ n. drop n (y ∷ ys ++ x ∷ [])) one

-- where an element is of a list that is the same
there : (kept seen : List (Vec ℕ Global)) (i : ℕ) (v : Vec ℕ Global) → seen ≡ kept → v ≡ get_or seen i v
    → get_or kept i v ≡ v
there kept seen i v same at = sym (at ∙ ap (λ (xs : List (Vec ℕ Global)). get_or xs i v) same)

-- a name is found
pub found_now : (name : List ℕ) (kept seen : List (Vec ℕ Global)) (i : ℕ) (v : Vec ℕ Global) (text : List ℕ)
    → seen ≡ kept → i < length seen → v ≡ get_or seen i v → text ≡ v.items → bytes_eq text name ≡ true
    → IsAmong name kept
found_now name kept seen i v text same within at is here = (
  i,
  v,
  subst (λ (xs : List (Vec ℕ Global)). i < length xs) same within,
  there kept seen i v same at,
  sym is ∙ (bytes_eq-Decides text name).0 here,
)

-- or it is not the next one
pub not_yet : (name : List ℕ) (kept seen : List (Vec ℕ Global)) (i : ℕ) (v : Vec ℕ Global) (text : List ℕ)
    → seen ≡ kept → i < length seen → v ≡ get_or seen i v → text ≡ v.items → bytes_eq text name ≡ false
    → IsNotAmong name (take i kept) → IsNotAmong name (take (i + 1) kept)
not_yet name kept seen i v text same within at is other before =
    All-more (λ (w : Vec ℕ Global). w.items ≢ name) kept i v
    (subst (λ (xs : List (Vec ℕ Global)). i < length xs) same within) before
    (λ e. false≢true (sym other ∙ (bytes_eq-Decides text name).1
    (is ∙ ap (λ (w : Vec ℕ Global). w.items) (sym (there kept seen i v same at)) ∙ e)))

-- after all of them it is not in the list
pub not_at_all : (name : List ℕ) (kept seen : List (Vec ℕ Global)) (i : ℕ) → seen ≡ kept → length seen ≤ i
    → IsNotAmong name (take i kept) → IsNotAmong name kept
not_at_all name kept seen i same all before =
    subst (IsNotAmong name)
    (take_all i kept (subst (λ (xs : List (Vec ℕ Global)). length xs ≤ i) same all)) before
