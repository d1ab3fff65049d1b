-- A text is written in portions.
use Rattle.std.proofs.Common.{◌≡◌, ℕ, ◌+◌, ◌<◌, ◌≤◌, List, [], ◌∷◌, ◌++◌, length, map, take, drop, get_or, Option, refl, sym, ap, ◌∙◌, subst, append_assoc, append-nil, take_all, take-append-drop, Result, Ok, Err}
use Rattle.std.specs.Prelude.{⊤, IsErrAnd}
use Rattle.std.proofs.lemmas.Grind.{flat_map-append}
use Rattle.std.proofs.lemmas.List.{map-append, take_more}
use Rattle.std.specs.Io.KnownBytes.{Appends}
use Rattle.std.proofs.KnownBytes.{Appends-nil, Appends-trans}
use Rattle.fibs_session.specs.History.Log as L
use Rattle.fibs_model.specs.EntryOf.{entry_of}
use Rattle.fibs_model.specs.declared.entry.Entry.{Entry}
use Rattle.fibs_engine.specs.Printing.{line_bytes}
use Rattle.fibs_replay.specs.LogLines.{entry_line, log_text}
use Rattle.fibs_engine.specs.Writing.{GainedFront, Wrote, progress_of, Progress, Whole, Broken}
use Rattle.fibs_engine.specs.declared.writing.Unwritten as declared
use Rattle.fibs_replay.specs.Passing.{Passed}

-- after a failed write the answer says so
pub broken_on : (Holds : Progress → Type 0) (r : Result ⊤ declared.Unwritten) (v : declared.Unwritten)
    → IsErrAnd r (λ e. e ≡ v) → Holds Broken → Holds (progress_of r)
broken_on Holds (Ok x) v h p = absurd h
broken_on Holds (Err e) v h p = p

-- nothing has passed yet
pub passed_nothing : (held : Option (List ℕ)) (text : List ℕ) → Passed held held text text
passed_nothing held text = ([], Appends-nil held, refl)

-- more of it passes
pub passed_more : (held mid now : Option (List ℕ)) (text left rest : List ℕ) → Passed held mid text left
    → Passed mid now left rest → Passed held now text rest
passed_more held mid now text left rest a b = (
  a.0 ++ b.0,
  Appends-trans held mid now a.0 b.0 a.1 b.1,
  a.2 ∙ ap (λ l. a.0 ++ l) b.2
      ∙ sym (append_assoc a.0 b.0 rest),
)

-- something more is to pass
pub passed_longer : (held now : Option (List ℕ)) (text left more : List ℕ) → Passed held now text left
    → Passed held now (text ++ more) (left ++ more)
passed_longer held now text left more a = (a.0, a.1, ap (λ l. l ++ more) a.2 ∙ append_assoc a.0 left more)

-- a write of what is left fails
pub passed_front : (held mid now : Option (List ℕ)) (text left more : List ℕ) → Passed held mid text left
    → GainedFront mid now left → GainedFront held now (text ++ more)
passed_front held mid now text left more a b = (
  a.0 ++ b.0,
  b.1 ++ more,
  b.2,
  ap (λ l. l ++ more) (a.2 ∙ ap (λ l. a.0 ++ l) b.3 ∙ sym (append_assoc a.0 b.0 (b.2 ∷ b.1)))
      ∙ append_assoc (a.0 ++ b.0) (b.2 ∷ b.1) more,
  Appends-trans held mid now a.0 b.0 a.1 b.4,
)

-- all that is left is written, or a front of it
pub passed_last : (p : Progress) (held mid now : Option (List ℕ)) (text left : List ℕ) → Passed held mid text left
    → Wrote p mid now left → Wrote p held now text
passed_last Whole held mid now text left a b = subst (Appends held now) (sym a.2)
    (Appends-trans held mid now a.0 left a.1 b)
passed_last Broken held mid now text left a b = subst (GainedFront held now) (append-nil text)
    (passed_front held mid now text left [] a b)

-- the lines of a log

-- the lines of the entries up to one, and its own
pub next_line_of : (entries : List Entry) (i : ℕ) (e : Entry) → i < length entries → e ≡ get_or entries i e
    → log_text (map entry_of (take (i + 1) entries))
    ≡ log_text (map entry_of (take i entries)) ++ line_bytes (entry_line (entry_of e))
next_line_of entries i e within is =
    let line : L.Entry → List ℕ = λ entry. line_bytes (entry_line entry) in
    ap (λ l. log_text (map entry_of l)) (take_more entries i e within ∙ ap (λ x. take i entries ++ x ∷ []) (sym is))
    ∙ ap log_text (map-append entry_of (take i entries) (e ∷ []))
    ∙ flat_map-append line (map entry_of (take i entries)) (entry_of e ∷ [])
    ∙ ap (λ l. log_text (map entry_of (take i entries)) ++ l) (append-nil (line (entry_of e)))

-- the lines of the entries up to one, and the others
pub lines_apart : (entries : List Entry) (i : ℕ)
    → log_text (map entry_of entries)
    ≡ log_text (map entry_of (take i entries)) ++ log_text (map entry_of (drop i entries))
lines_apart entries i =
    let line : L.Entry → List ℕ = λ entry. line_bytes (entry_line entry) in
    ap (λ l. log_text (map entry_of l)) (sym (take-append-drop i entries))
    ∙ ap log_text (map-append entry_of (take i entries) (drop i entries))
    ∙ flat_map-append line (map entry_of (take i entries)) (map entry_of (drop i entries))

-- the invariant of the loop, at the next entry
pub entry_passed : (held mid now : Option (List ℕ)) (entries : List Entry) (i : ℕ) (e : Entry) (text left new : List ℕ)
    → i < length entries → e ≡ get_or entries i e
    → Passed held mid (log_text (map entry_of (take i entries))) text → Passed mid now text left
    → new ≡ left ++ line_bytes (entry_line (entry_of e))
    → Passed held now (log_text (map entry_of (take (i + 1) entries))) new
entry_passed held mid now entries i e text left new within is before room appended =
    let line : List ℕ = line_bytes (entry_line (entry_of e)) in
    let so_far : List ℕ = log_text (map entry_of (take i entries)) in
    let longer : Passed held now (so_far ++ line) (left ++ line) =
    passed_longer held now so_far left line (passed_more held mid now so_far text left before room) in
    subst (λ l. Passed held now l new) (sym (next_line_of entries i e within is))
    (subst (Passed held now (so_far ++ line)) (sym appended) longer)

-- a write fails between two entries
pub entry_broken : (held mid now : Option (List ℕ)) (entries : List Entry) (i : ℕ) (text last : List ℕ)
    → Passed held mid (log_text (map entry_of (take i entries))) text → GainedFront mid now text
    → GainedFront held now (log_text (map entry_of entries) ++ last)
entry_broken held mid now entries i text last before broken =
    let so_far : List ℕ = log_text (map entry_of (take i entries)) in
    let others : List ℕ = log_text (map entry_of (drop i entries)) in
    subst (GainedFront held now) (sym (append_assoc so_far others last)
    ∙ ap (λ l. l ++ last) (sym (lines_apart entries i)))
    (passed_front held mid now so_far text (others ++ last) before broken)

-- all entries, and a last line
pub all_passed : (p : Progress) (held mid then now : Option (List ℕ)) (entries : List Entry) (i : ℕ)
    (text left last whole : List ℕ) → length entries ≤ i
    → Passed held mid (log_text (map entry_of (take i entries))) text → Passed mid then text left → whole ≡ left ++ last
    → Wrote p then now whole
    → Wrote p held now (log_text (map entry_of entries) ++ last)
all_passed p held mid then now entries i text left last whole end before room appended wrote =
    let lines : List ℕ = log_text (map entry_of entries) in
    let all : Passed held mid lines text = subst (λ l. Passed held mid (log_text (map entry_of l)) text)
    (take_all i entries end) before in
    let longer : Passed held then (lines ++ last) (left ++ last) =
    passed_longer held then lines left last (passed_more held mid then lines text left all room) in
    passed_last p held then now (lines ++ last) whole (subst (Passed held then (lines ++ last)) (sym appended) longer)
    wrote
