-- How the fields of a board line are gone through, from the left. Of what is public only `reading_value` rests on it.
use Rattle.std.specs.Prelude.{◌≡◌, ◌+◌, ◌++◌, ℕ, ℤ, true, List, [], ◌∷◌, Option, Some, None, codes, drop, map, slice_get}
use Rattle.std.specs.Fmt.{signed_decimal}
use Rattle.fibs_fields.specs.Board.{allowed_by, field_values, kinds, pieces}
use Rattle.fibs_fields.specs.Field.{Kind, a_number_of, fault_in, fault_between}
use Rattle.fibs_fields.specs.FieldReading.{Left}
use Rattle.fibs_fields.specs.declared.fault.Fault.{Fault}
use Rattle.fibs_fields.specs.declared.fault.Fault.TheVariants.{Extra}
use Rattle.fibs_fields.specs.declared.fault.FieldFault.{FieldFault}

-- the pieces that are left, nothing being left after the last
abbrev pub pieces_of : Option (List ℕ) → List (List ℕ)
pieces_of None = []
pieces_of (Some rest) = pieces rest

-- the same for what is left of a line
abbrev pub pieces_left : Left → List (List ℕ)
pieces_left l = pieces_of l.rest

-- the fault of field n, if it has one, else a later one
abbrev pub fault_or : ℕ → Option Fault → Option FieldFault → Option FieldFault
fault_or n None later = later
fault_or n (Some f) later = Some (record { field = n; fault = f })

-- the first fault of the pieces against their kinds, if the first of them is field n
abbrev pub first_fault : ℕ → List Kind → List (List ℕ) → Option FieldFault
first_fault n [] [] = None
first_fault n [] (p ∷ ps) = Some (record { field = n; fault = Extra })
first_fault n (k ∷ ks) [] = fault_or n (fault_between (Some k) None) (first_fault (n + 1) ks [])
first_fault n (k ∷ ks) (p ∷ ps) = fault_or n (fault_in k p) (first_fault (n + 1) ks ps)

-- Of all pieces of a line these were read, without a fault. Those that are left are field n and the later ones, of
-- these kinds.
pub record HasRead (all done : List (List ℕ)) (n : ℕ) (later : List Kind) (l : Left) : Type 0 where
  pub colon : l.separator ≡ 58
  pub parts : all ≡ done ++ pieces_left l
  pub fault : first_fault 1 kinds all ≡ first_fault n later (pieces_left l)

-- the word `board` and two names
abbrev pub names_read : List ℕ → List ℕ → List (List ℕ)
names_read player opponent = codes "board" ∷ player ∷ opponent ∷ []

-- the number z of field i + 4 was read
pub record NumberRead (i : ℕ) (z : ℤ) (l m : Left) : Type 0 where
  pub colon : m.separator ≡ 58
  pub pieces : pieces_left l ≡ signed_decimal z ∷ pieces_left m
  pub allowed : allowed_by (slice_get field_values i) z ≡ true
  pub fault : first_fault (i + 4) (map a_number_of (drop i field_values)) (pieces_left l)
      ≡ first_fault (i + 1 + 4) (map a_number_of (drop (i + 1) field_values)) (pieces_left m)
