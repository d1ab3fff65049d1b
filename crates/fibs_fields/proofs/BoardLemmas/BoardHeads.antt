-- The fields of a line are read one after another.
use Rattle.std.proofs.Common.{◌≡◌, ◌∙◌, ◌+◌, ◌++◌, ℕ, List, [], ◌∷◌, Some, Ok, Err, append_assoc, codes, map, refl, sym, ap}
use Rattle.fibs_fields.specs.Board.{field_values, kinds, pieces}
use Rattle.fibs_fields.specs.BoardReading.{first_fault, pieces_left, HasRead}
use Rattle.fibs_fields.specs.Field.{Kind, NameField, a_name, a_number_of, the_word}
use Rattle.fibs_fields.specs.FieldReading.{Left, left, next_at, field_at, this_word}
use Rattle.fibs_fields.specs.declared.fault.FieldFault.{FieldFault}
use Rattle.fibs_fields.proofs.BoardLemmas.NextFields.{IsNext, name_next, name_wrong, word_next}

-- what is left of a text before anything was read
pub begun : (text line : List ℕ) (l : Left) → text ≡ line → l ≡ left 58 (Some text)
    → (l.separator ≡ 58) × (pieces_left l ≡ pieces line)
begun text line l same is = (ap (λ m. m.separator) is, ap pieces_left is ∙ ap pieces same)

-- nothing was read yet
pub none_read : (l : Left) → l.separator ≡ 58 → HasRead (pieces_left l) [] 1 kinds l
none_read l colon = record { colon = colon; parts = refl; fault = refl }

-- one field more was read
pub one_read : (all done : List (List ℕ)) (text : List ℕ) (n : ℕ) (k : Kind) (later : List Kind) (l m : Left)
    → HasRead all done n (k ∷ later) l → IsNext k n l text m → HasRead all (done ++ text ∷ []) (n + 1) later m
one_read all done text n k later l m read next = record {
  colon = next.colon;
  parts = read.parts ∙ ap (λ ps. done ++ ps) next.pieces ∙ sym (append_assoc done (text ∷ []) (pieces_left m));
  fault = read.fault ∙ next.later later;
}

-- the word `board` was read
pub word_read : (l m : Left) → l.separator ≡ 58 → next_at (this_word (codes "board")) 1 l ≡ Ok (codes "board", m)
    → HasRead (pieces_left l) (codes "board" ∷ []) 2 (a_name ∷ a_name ∷ map a_number_of field_values) m
word_read l m colon h =
    one_read (pieces_left l) [] (codes "board") 1 (the_word (codes "board"))
    (a_name ∷ a_name ∷ map a_number_of field_values) l m (none_read l colon) (word_next l m colon h)

-- a name was read after others
pub name_read : (all done : List (List ℕ)) (name : List ℕ) (n : ℕ) (later : List Kind) (l m : Left)
    → HasRead all done n (a_name ∷ later) l → field_at a_name n l ≡ Ok (NameField name, m)
    → HasRead all (done ++ name ∷ []) (n + 1) later m
name_read all done name n later l m read h =
    one_read all done name n a_name later l m read (name_next n l m name read.colon h)

-- a name was refused after others
pub name_refused : (all done : List (List ℕ)) (n : ℕ) (later : List Kind) (l : Left) (e : FieldFault)
    → HasRead all done n (a_name ∷ later) l → field_at a_name n l ≡ Err e → first_fault 1 kinds all ≡ Some e
name_refused all done n later l e read h = read.fault ∙ name_wrong n l e later read.colon h
