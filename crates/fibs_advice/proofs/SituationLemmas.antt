-- Which texts say a name that is kept.
use Rattle.std.proofs.Common.{◌≢◌, ◌↔◌, Bool, IsTrue, refl}
use Rattle.fibs_events.specs.declared.told.Told.{Told}
use Rattle.fibs_events.specs.declared.told.Told.TheVariants as T
use Rattle.fibs_advice.specs.Situations.{KeepsName}
use Rattle.fibs_advice.specs.declared.standing.Standing.{Standing}

-- a text that neither begins nor resumes a match, nor invites, has a name to keep if it changes what the user waits for
pub kept_if_changed : (told : Told) (standing after : Standing) (kept : Bool) → told ≢ T.Begins → told ≢ T.Resumes
    → told ≢ T.Invited → (IsTrue kept ↔ (after ≢ standing)) → IsTrue kept ↔ KeepsName told standing after
kept_if_changed T.Begins standing after kept begins resumes invites changed = absurd (begins refl)
kept_if_changed T.Resumes standing after kept begins resumes invites changed = absurd (resumes refl)
kept_if_changed T.Invited standing after kept begins resumes invites changed = absurd (invites refl)
kept_if_changed told standing after kept begins resumes invites changed = changed
