use Rattle.std.proofs.Common.{◌≡◌, Bool, true, false, if◌then◌else◌, refl}
use Rattle.fibs_session.specs.Calls.FieldSteps.{HeardFields, unheard}
use Rattle.fibs_session.proofs.hearing.is_unheard.Goals as goal

-- what is so either way
either_way : (b : Bool) (h : HeardFields) → (if b then h else h) ≡ h
either_way true h = refl
either_way false h = refl

pub returns-then-line-clause-says : goal.returns-then-line-clause-says
returns-then-line-clause-says c = λ is v. rw c.if-line.true (either_way v.online (unheard v))
