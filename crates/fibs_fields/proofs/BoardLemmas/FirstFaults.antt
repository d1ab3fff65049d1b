-- The first fault is the one at the least wrong place.
use Rattle.std.proofs.Common.{◌≡◌, ℕ, zero, suc, ◌<◌, ◌+◌, List, [], ◌∷◌, Option, Some, None, arith, refl, sym, ap, ◌∙◌}
use Rattle.fibs_fields.specs.Field.{Kind, fault_in, fault_between, fault_at}
use Rattle.fibs_fields.proofs.FieldLemmas.Options.{option_same, some_none}
use Rattle.fibs_fields.specs.BoardReading.{first_fault, fault_or}
use Rattle.fibs_fields.specs.declared.fault.Fault.{Fault}
use Rattle.fibs_fields.specs.declared.fault.Fault.TheVariants.{Extra}
use Rattle.fibs_fields.specs.declared.fault.FieldFault.{FieldFault}

-- the place i is wrong by e, counted from n, and none before it is
pub record IsLeast (n : ℕ) (ks : List Kind) (ps : List (List ℕ)) (e : FieldFault) : Type 0 where
  pub place : ℕ
  pub field : e.field ≡ n + place
  pub here : fault_at ks ps place ≡ Some e.fault
  pub before : (j : ℕ) → j < place → fault_at ks ps j ≡ None

-- a fault of a field, by its parts
fault_in_field : (m n : ℕ) (f g : Fault) → m ≡ n → f ≡ g
    → ◌≡◌ {A = Option FieldFault} (Some (record { field = m; fault = f })) (Some (record { field = n; fault = g }))
fault_in_field m n f g p q i = Some (record { field = p i; fault = q i })

-- the first field is wrong
from_here : (n : ℕ) (ks : List Kind) (ps : List (List ℕ)) (f : Fault) (e : FieldFault) → fault_at ks ps 0 ≡ Some f
    → Some (record { field = n; fault = f }) ≡ Some e → IsLeast n ks ps e
from_here n ks ps f e here h =
    let same : ◌≡◌ {A = FieldFault} (record { field = n; fault = f }) e =
    option_same (record { field = n; fault = f }) e h in
    let field : n ≡ e.field = ap (λ (x : FieldFault). x.field) same in
    record {
      place = 0;
      field = omega arith;
      here = here ∙ ap (λ (x : FieldFault). Some x.fault) same;
      before =
          λ j below. absurd (omega arith);
    }

-- a later one is, if the others are those of fewer texts
from_later : (n : ℕ) (k : Kind) (ks : List Kind) (ps qs : List (List ℕ)) (e : FieldFault)
    → fault_at (k ∷ ks) ps 0 ≡ None
    → ((j : ℕ) → fault_at (k ∷ ks) ps (suc j) ≡ fault_at ks qs j) → IsLeast (n + 1) ks qs e → IsLeast n (k ∷ ks) ps e
from_later n k ks ps qs e good others rest =
    let field : e.field ≡ n + 1 + rest.place = rest.field in
    record { place = suc rest.place; field = omega arith; here = others rest.place ∙ rest.here; before = before }
  where
    before : (j : ℕ) → j < suc rest.place → fault_at (k ∷ ks) ps j ≡ None
    before zero below = good
    before (suc j) below = others j ∙ rest.before j (omega arith)

-- either, by the fault of the first
by_first : (n : ℕ) (k : Kind) (ks : List Kind) (ps qs : List (List ℕ)) (e : FieldFault) (o : Option Fault)
    → fault_at (k ∷ ks) ps 0 ≡ o → ((j : ℕ) → fault_at (k ∷ ks) ps (suc j) ≡ fault_at ks qs j)
    → fault_or n o (first_fault (n + 1) ks qs) ≡ Some e
    → (first_fault (n + 1) ks qs ≡ Some e → IsLeast (n + 1) ks qs e) → IsLeast n (k ∷ ks) ps e
by_first n k ks ps qs e None is others h later = from_later n k ks ps qs e is others (later h)
by_first n k ks ps qs e (Some f) is others h later = from_here n (k ∷ ks) ps f e is h

-- the fault that is found is the least
pub least_from_first : (n : ℕ) (ks : List Kind) (ps : List (List ℕ)) (e : FieldFault) → first_fault n ks ps ≡ Some e
    → IsLeast n ks ps e
least_from_first n [] [] e h = absurd (some_none e (sym h))
least_from_first n [] (p ∷ ps) e h = from_here n [] (p ∷ ps) Extra e refl h
least_from_first n (k ∷ ks) [] e h =
    by_first n k ks [] [] e (fault_between (Some k) None) refl (λ j. refl) h (least_from_first (n + 1) ks [] e)
least_from_first n (k ∷ ks) (p ∷ ps) e h =
    by_first n k ks (p ∷ ps) ps e (fault_in k p) refl (λ j. refl) h (least_from_first (n + 1) ks ps e)

-- the least fault is found, here
found_here : (n : ℕ) (f : Fault) (o : Option Fault) (later : Option FieldFault) → o ≡ Some f
    → fault_or n o later ≡ Some (record { field = n + 0; fault = f })
found_here n f o later here = ap (λ x. fault_or n x later) here ∙ fault_in_field n (n + 0) f f (omega arith) refl

-- or later
found_later : (n i : ℕ) (f : Fault) (o : Option Fault) (later : Option FieldFault) → o ≡ None
    → later ≡ Some (record { field = n + 1 + i; fault = f })
    → fault_or n o later ≡ Some (record { field = n + suc i; fault = f })
found_later n i f o later none is =
    ap (λ x. fault_or n x later) none ∙ is ∙ fault_in_field (n + 1 + i) (n + suc i) f f (omega arith) refl

-- the least fault is found
pub first_from_least : (n : ℕ) (ks : List Kind) (ps : List (List ℕ)) (i : ℕ) (f : Fault) → fault_at ks ps i ≡ Some f
    → ((j : ℕ) → j < i → fault_at ks ps j ≡ None)
    → first_fault n ks ps ≡ Some (record { field = n + i; fault = f })
first_from_least n [] [] i f here before = absurd (some_none f (sym here))
first_from_least n [] (p ∷ ps) zero f here before =
    fault_in_field n (n + 0) Extra f (omega arith) (option_same Extra f here)
first_from_least n [] (p ∷ ps) (suc i) f here before = absurd (some_none Extra (before 0 (omega arith)))
first_from_least n (k ∷ ks) [] zero f here before =
    found_here n f (fault_between (Some k) None) (first_fault (n + 1) ks []) here
first_from_least n (k ∷ ks) [] (suc i) f here before =
    found_later n i f (fault_between (Some k) None) (first_fault (n + 1) ks []) (before 0 (omega arith))
    (first_from_least (n + 1) ks [] i f here (λ j below. before (suc j) (omega arith)))
first_from_least n (k ∷ ks) (p ∷ ps) zero f here before =
    found_here n f (fault_in k p) (first_fault (n + 1) ks ps) here
first_from_least n (k ∷ ks) (p ∷ ps) (suc i) f here before =
    found_later n i f (fault_in k p) (first_fault (n + 1) ks ps) (before 0 (omega arith))
    (first_from_least (n + 1) ks ps i f here (λ j below. before (suc j) (omega arith)))
