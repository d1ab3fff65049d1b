-- Where writing stopped.
use Rattle.std.proofs.Common.{◌≡◌, ℕ, false, List, [], ◌∷◌, ◌++◌, length, Option, Result, Ok, Err, IsErr, subst, append-nil, ap, sym, ◌∙◌, append_assoc, take, drop, take-append-drop}
use Rattle.std.specs.Prelude.{◌==◌, ⊤}
use Rattle.std.specs.Io.KnownBytes.{Appends, Keeps}
use Rattle.std.proofs.KnownBytes.{Appends-trans, Appends-kept}
use Rattle.fibs_engine.specs.Writing.{GainedFront, Progress, Whole, Broken, Wrote, progress_of}
use Rattle.fibs_engine.specs.declared.writing.Unwritten as declared

-- a front was written, and something is left
left_over : (held now : Option (List ℕ)) (bytes front rest : List ℕ) → bytes ≡ front ++ rest
    → false ≡ (length rest == 0) → Appends held now front → GainedFront held now bytes
left_over held now bytes front [] cut some wrote = cc
left_over held now bytes front (missing ∷ rest) cut some wrote = (front, rest, missing, cut, wrote)

-- a write took nothing
pub took_nothing : (held mid now : Option (List ℕ)) (bytes front rest : List ℕ) → bytes ≡ front ++ rest
    → false ≡ (length rest == 0) → Appends held mid front → Appends mid now [] → GainedFront held now bytes
took_nothing held mid now bytes front rest cut some wrote none =
    left_over held now bytes front rest cut some
    (subst (Appends held now) (append-nil front) (Appends-trans held mid now front [] wrote none))

-- a write failed
pub failed_write : (held mid now : Option (List ℕ)) (bytes front rest : List ℕ) → bytes ≡ front ++ rest
    → false ≡ (length rest == 0) → Appends held mid front → Keeps mid now → GainedFront held now bytes
failed_write held mid now bytes front rest cut some wrote kept =
    left_over held now bytes front rest cut some (Appends-kept held mid now front wrote kept)

-- bytes that follow what was written were written up to some byte
pub front_after : (held now more : Option (List ℕ)) (shown added : List ℕ) → Appends held now shown
    → GainedFront now more added → GainedFront held more (shown ++ added)
front_after held now more shown added wrote broke = (
  shown ++ broke.0,
  broke.1,
  broke.2,
  ap (λ l. shown ++ l) broke.3 ∙ sym (append_assoc shown broke.0 (broke.2 ∷ broke.1)),
  Appends-trans held now more shown broke.0 wrote broke.4,
)

-- a front of some bytes is one of more bytes
pub front_of_more : (held now : Option (List ℕ)) (bytes more : List ℕ) → GainedFront held now bytes
    → GainedFront held now (bytes ++ more)
front_of_more held now bytes more broke = (
  broke.0,
  broke.1 ++ more,
  broke.2,
  ap (λ l. l ++ more) broke.3 ∙ append_assoc broke.0 (broke.2 ∷ broke.1) more,
  broke.4,
)

-- a part of some bytes was written up to some byte, after all that is before it
pub broke_after : (held mid now : Option (List ℕ)) (front part more whole : List ℕ) → front ++ (part ++ more) ≡ whole
    → Appends held mid front → GainedFront mid now part → GainedFront held now whole
broke_after held mid now front part more whole cut wrote broke =
    subst (GainedFront held now) cut (front_after held mid now front (part ++ more) wrote
    (front_of_more mid now part more broke))

-- what an error says
pub wrote_front : (r : Result ⊤ declared.Unwritten) (held now : Option (List ℕ)) (bytes : List ℕ) → IsErr r
    → GainedFront held now bytes → Wrote (progress_of r) held now bytes
wrote_front (Ok done) held now bytes failed front = cc
wrote_front (Err why) held now bytes failed front = front

-- the last part of some bytes was written, or a front of it, after all that is before it
pub wrote_after : (p : Progress) (held mid now : Option (List ℕ)) (front part whole : List ℕ) → front ++ part ≡ whole
    → Appends held mid front → Wrote p mid now part → Wrote p held now whole
wrote_after Whole held mid now front part whole cut wrote all =
    subst (Appends held now) cut (Appends-trans held mid now front part wrote all)
wrote_after Broken held mid now front part whole cut wrote broke =
    subst (GainedFront held now) cut (front_after held mid now front part wrote broke)

-- the part that was used joins the front
pub front_more : (portion front rest : List ℕ) (used : ℕ) → portion ≡ front ++ rest
    → portion ≡ (front ++ take used rest) ++ drop used rest
front_more portion front rest used e =
    e ∙ ap (λ l. front ++ l) (sym (take-append-drop used rest))
    ∙ sym (append_assoc front (take used rest) (drop used rest))
