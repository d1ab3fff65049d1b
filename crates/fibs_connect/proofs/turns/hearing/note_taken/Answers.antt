use Rattle.std.proofs.Common.{◌≡◌, ℕ, ◌++◌, [], None, Some, sym, subst, append-nil, inl, inr, false, true, true≢false}
use Rattle.std.proofs.lemmas.Bool.Decides.{eqb_tells}
use Rattle.fibs_messages.specs.Directory.{IsDirectory}
use Rattle.fibs_engine.proofs.OkLemmas.{on_ok_weaker}
use Rattle.fibs_connect.proofs.turns.hearing.note_taken.Goals as goal

-- a number that is not another one than 5
is_five : (n : ℕ) → ((n ≡ 5 → ⊥) → false ≡ true) → n ≡ 5
is_five n h = elim (eqb_tells n 5) [ inl e ↦ e.1 | inr other ↦ absurd (true≢false (sym (h other.1))) ]

pub returns-in-Err : goal.returns-in-Err
returns-in-Err g c =
    on_ok_weaker c.tell.result
    (λ h. (
      Some c.in-Err.fault,
      h,
      λ before is. subst (IsDirectory (before ++ [])) (sym c.in-Err.ensures.unchanged)
          (subst (λ ms. IsDirectory ms c.args.directory.now) (sym (append-nil before)) is),
      rw c.in-Numbered.is (inl (is_five _ c.in-Err.ensures.others)),
    )) c.tell.ensures

pub returns-in-Ok : goal.returns-in-Ok
returns-in-Ok g c = rw c.in-Numbered.is (None, g.met.F.Front.joins.nothing _, c.in-Ok.ensures.noted, tt)
