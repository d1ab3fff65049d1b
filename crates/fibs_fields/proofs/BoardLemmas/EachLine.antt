-- Each line says one board, or has one first wrong field.
use Rattle.std.proofs.Common.{◌≡◌, ℕ, ◌+◌, ◌⊎◌, inl, inr, Bool, true, false, List, [], ◌∷◌, Option, Some, None, Result, Ok, Err, map, codes, refl, sym, ap, ◌∙◌}
use Rattle.std.specs.Prelude.{ℤ}
use Rattle.std.specs.Fmt.{signed_decimal}
use Rattle.std.specs.List.{All}
use Rattle.std.specs.Result.{result_err}
use Rattle.std.specs.Str.{bytes_eq}
use Rattle.std.proofs.lemmas.List.Elements.{All-head, All-tail}
use Rattle.std.proofs.lemmas.Slice.Eq.{bytes_eq-Decides}
use Rattle.fibs_fields.specs.Board.{BoardFields, IsBoard, BoardText, Fit, Wrong, field_values, kinds, pieces, texts}
use Rattle.fibs_fields.specs.Spaces.{without_spaces}
use Rattle.fibs_fields.specs.Decimal.{number_in}
use Rattle.fibs_fields.specs.DecimalReading.{IsNarrow}
use Rattle.fibs_fields.specs.Field.{a_number_of, bad_name_unless}
use Rattle.fibs_fields.specs.Name.{is_name}
use Rattle.fibs_fields.specs.BoardReading.{first_fault, fault_or}
use Rattle.fibs_fields.specs.declared.fault.FieldFault.{FieldFault}
use Rattle.fibs_fields.specs.declared.fault.Fault.{Fault}
use Rattle.fibs_fields.specs.declared.fault.Fault.TheVariants.{BadName}
use Rattle.fibs_fields.specs.declared.values.Values.{Values}
use Rattle.fibs_fields.proofs.BoardLemmas.BoardTexts.{board_from_pieces, wrong_from_first, texts_same, pieces_of_board, texts_right, first_from_wrong}
use Rattle.fibs_fields.proofs.FieldLemmas.Options.{option_same, some_none}
use Rattle.fibs_fields.proofs.FieldLemmas.Spaces.{spaces_after}
use Rattle.fibs_fields.proofs.NumberLemmas.Spelled.{number_in_spelled}
use Rattle.fibs_fields.proofs.BoardLemmas.FieldTable.{all_narrow}

-- if there is no fault in all, there is none here and none later
no_fault : (n : ℕ) (o : Option Fault) (later : Option FieldFault) → fault_or n o later ≡ None
    → (o ≡ None) × (later ≡ None)
no_fault n None later h = (refl, h)
no_fault n (Some f) later h = absurd (some_none (record { field = n; fault = f }) h)

-- no fault of a name: it is one
good_unless : (good : Bool) → bad_name_unless good ≡ None → good ≡ true
good_unless true h = refl
good_unless false h = absurd (some_none BadName h)

-- no fault of a number: there is one
number_of : (r : Result ℤ Fault) → result_err r ≡ None → (z : ℤ) × (r ≡ Ok z)
number_of (Ok z) h = (z, refl)
number_of (Err f) h = absurd (some_none f h)

-- pieces that are numbers of their fields
record AreNumbers (vs : List Values) (ps : List (List ℕ)) : Type 0 where
  zs : List ℤ
  fit : Fit vs zs
  spelled : ps ≡ map signed_decimal zs

-- pieces without a fault are such
numbers_from : (n : ℕ) (vs : List Values) (ps : List (List ℕ)) → All IsNarrow vs
    → first_fault n (map a_number_of vs) ps ≡ None → AreNumbers vs ps
numbers_from n [] [] narrow h = record { zs = []; fit = tt; spelled = refl }
numbers_from n [] (p ∷ ps) narrow h = absurd (some_none _ h)
numbers_from n (v ∷ vs) [] narrow h = absurd (some_none _ h)
numbers_from n (v ∷ vs) (p ∷ ps) narrow h =
    let both = no_fault n (result_err (number_in v p)) (first_fault (n + 1) (map a_number_of vs) ps) h in
    let here = number_of (number_in v p) both.0 in
    let this = number_in_spelled v p here.0 (All-head IsNarrow v vs narrow) here.1 in
    let rest = numbers_from (n + 1) vs ps (All-tail IsNarrow v vs narrow) both.1 in
    let tail : ps ≡ map signed_decimal rest.zs = rest.spelled in
    record { zs = here.0 ∷ rest.zs; fit = (this.1, rest.fit); spelled = (λ i. this.0 i ∷ tail i) }

-- pieces that are the fields of a board
pub record AreFields (ps : List (List ℕ)) : Type 0 where
  pub board : BoardFields
  pub is_board : IsBoard board
  pub spelled : ps ≡ texts board

-- pieces without a fault are such
pub fields_from : (ps : List (List ℕ)) → first_fault 1 kinds ps ≡ None → AreFields ps
fields_from [] h = absurd (some_none _ h)
fields_from (w ∷ []) h = let word = no_fault 1 _ _ h in absurd (some_none _ word.1)
fields_from (w ∷ p ∷ []) h =
    let word = no_fault 1 _ _ h in
    let player = no_fault 2 _ _ word.1 in
    absurd (some_none _ player.1)
fields_from (w ∷ p ∷ o ∷ ps) h =
    let word = no_fault 1 _ _ h in
    let player = no_fault 2 _ _ word.1 in
    let opponent = no_fault 3 _ _ player.1 in
    let rest = numbers_from 4 field_values ps all_narrow opponent.1 in
    let first : w ≡ codes "board" =
    (bytes_eq-Decides w (codes "board")).0 (good_unless (bytes_eq w (codes "board")) word.0) in
    let numbers : ps ≡ map signed_decimal rest.zs = rest.spelled in
    record {
      board = record { player = p; opponent = o; numbers = rest.zs };
      is_board = (good_unless (is_name p) player.0, good_unless (is_name o) opponent.0, rest.fit);
      spelled = (λ i. first i ∷ p ∷ o ∷ numbers i);
    }

-- by the first fault that was found, or none
by_first_fault : (line : List ℕ) (found : Option FieldFault)
    → first_fault 1 kinds (pieces (without_spaces line)) ≡ found
    → ((b : BoardFields) × BoardText b line) ⊎ ((k : ℕ) × (f : Fault) × Wrong line k f)
by_first_fault line None h =
    let fields = fields_from (pieces (without_spaces line)) h in
    let spaces = spaces_after line in
    inl (fields.board, board_from_pieces fields.board line spaces.0 fields.is_board spaces.1 fields.spelled)
by_first_fault line (Some e) h = inr (e.field, e.fault, wrong_from_first line e h)

-- each line says a board or has a first wrong field
pub board_or_wrong : (line : List ℕ) → ((b : BoardFields) × BoardText b line) ⊎ ((k : ℕ) × (f : Fault) × Wrong line k f)
board_or_wrong line = by_first_fault line (first_fault 1 kinds (pieces (without_spaces line))) refl

-- a line says one board
pub one_board : (line : List ℕ) (a b : BoardFields) → BoardText a line → BoardText b line → a ≡ b
one_board line a b g h = texts_same a b g.0 h.0 (sym (pieces_of_board a line g) ∙ pieces_of_board b line h)

-- a line has one first wrong field, with one fault
fault_same : (line : List ℕ) (d e : FieldFault) → Wrong line d.field d.fault → Wrong line e.field e.fault → d ≡ e
fault_same line d e g h = option_same d e (sym (first_from_wrong line d g) ∙ first_from_wrong line e h)

-- by its parts
pub one_fault : (line : List ℕ) (k m : ℕ) (f g : Fault) → Wrong line k f → Wrong line m g → (k ≡ m) × (f ≡ g)
one_fault line k m f g p q =
    let same : ◌≡◌ {A = FieldFault} (record { field = k; fault = f }) (record { field = m; fault = g }) =
    fault_same line (record { field = k; fault = f }) (record { field = m; fault = g }) p q in
    (ap (λ (e : FieldFault). e.field) same, ap (λ (e : FieldFault). e.fault) same)

-- a line that says a board has no wrong field
pub not_both : (line : List ℕ) (b : BoardFields) (k : ℕ) (f : Fault) → BoardText b line → Wrong line k f → ⊥
not_both line b k f says wrong =
    let e : FieldFault = record { field = k; fault = f } in
    some_none e
    (sym (first_from_wrong line e wrong) ∙ ap (first_fault 1 kinds) (pieces_of_board b line says)
    ∙ texts_right b says.0)
