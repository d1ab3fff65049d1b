-- The objects of a log, one after another.
use Rattle.std.proofs.Common.{◌≡◌, ℕ, ◌+◌, ◌<◌, ◌≤◌, List, [], ◌∷◌, ◌++◌, codes, refl, sym, ap, subst, ◌∙◌, append_assoc, length, map, take, get_or, take_all}
use Rattle.std.proofs.lemmas.List.{map-append, take_more}
use Rattle.fibs_model.specs.EntryOf.{entry_of}
use Rattle.fibs_model.specs.declared.entry.Entry.{Entry as ProgramEntry}
use Rattle.fibs_engine.specs.Printing.{line_bytes}
use Rattle.fibs_json.specs.Lines.{object_with, opening}
use Rattle.fibs_session.specs.History.Log.{Entry}
use Rattle.fibs_cli.specs.Entries.{EntryObject, LogObjects}

-- one more
pub log_more : (log : List Entry) (e : Entry) (shown one : List ℕ) → LogObjects log shown → EntryObject e one
    → LogObjects (log ++ (e ∷ [])) (shown ++ line_bytes one)
log_more [] e shown one h is =
    (one, [], is, refl, ap (λ (l : List ℕ). l ++ line_bytes one) h)
log_more (f ∷ log) e shown one h is = (
  h.0,
  h.1 ++ line_bytes one,
  h.2,
  log_more log e h.1 one h.3 is,
  ap (λ (l : List ℕ). l ++ line_bytes one) h.4 ∙ append_assoc h.0 (10 ∷ h.1) (line_bytes one),
)

-- the front of an object, its further members and its end are the object, with its end
pub closed : (old kind line more one two three : List ℕ) → one ≡ old ++ opening kind line → two ≡ one ++ more
    → three ≡ two ++ codes "}\n" → three ≡ old ++ line_bytes (object_with kind line more)
closed old kind line more one two three first second third =
    let front : List ℕ = opening kind line in
    third
    ∙ ap (λ (l : List ℕ). l ++ codes "}\n") (second ∙ ap (λ (l : List ℕ). l ++ more) first)
    ∙ append_assoc (old ++ front) more (codes "}\n")
    ∙ append_assoc old front (more ++ codes "}\n")
    ∙ ap (λ (l : List ℕ). old ++ l)
    (ap (λ (l : List ℕ). front ++ l) (sym (append_assoc more (125 ∷ []) (10 ∷ [])))
    ∙ sym (append_assoc front (more ++ (125 ∷ [])) (10 ∷ [])))

-- the objects of the entries up to one
abbrev pub ShownTo : List ProgramEntry → ℕ → List ℕ → List ℕ → Type 0
ShownTo entries i old now = (shown : List ℕ) × LogObjects (map entry_of (take i entries)) shown × (now ≡ old ++ shown)

-- and its own
pub shown_next : (entries : List ProgramEntry) (i : ℕ) (e : ProgramEntry) (old mid now : List ℕ) → i < length entries
    → e ≡ get_or entries i e → ShownTo entries i old mid
    → ((shown : List ℕ) × EntryObject (entry_of e) shown × (now ≡ mid ++ line_bytes shown))
    → ShownTo entries (i + 1) old now
shown_next entries i e old mid now within is h one =
    let same = ap (map entry_of) (take_more entries i e within ∙ ap (λ x. take i entries ++ x ∷ []) (sym is))
    ∙ map-append entry_of (take i entries) (e ∷ []) in (
      h.0 ++ line_bytes one.0,
      subst (λ (l : List Entry). LogObjects l (h.0 ++ line_bytes one.0)) (sym same)
          (log_more (map entry_of (take i entries)) (entry_of e) h.0 one.0 h.1 one.1),
      one.2 ∙ ap (λ (l : List ℕ). l ++ line_bytes one.0) h.2 ∙ append_assoc old h.0 (line_bytes one.0),
    )

-- those of all of them
pub shown_all : (entries : List ProgramEntry) (i : ℕ) (old now : List ℕ) → length entries ≤ i
    → ShownTo entries i old now
    → (shown : List ℕ) × LogObjects (map entry_of entries) shown × (now ≡ old ++ shown)
shown_all entries i old now past h =
    (h.0, subst (λ (l : List ProgramEntry). LogObjects (map entry_of l) h.0) (take_all i entries past) h.1, h.2)

-- the front of a list
take_front : (text rest : List ℕ) → take (length text) (text ++ rest) ≡ text
take_front [] rest = refl
take_front (x ∷ text) rest = ap (λ (l : List ℕ). x ∷ l) (take_front text rest)

-- a line without the byte that ends it
pub without_end : (line text : List ℕ) (count : ℕ) → line ≡ line_bytes text → count ≡ length text
    → take count line ≡ text
without_end line text count is same =
    ap (take count) is ∙ ap (λ (n : ℕ). take n (line_bytes text)) same ∙ take_front text (10 ∷ [])
