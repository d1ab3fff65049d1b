-- Why no play leads from a board to another if none is found of the side that has rolled.
use Rattle.std.proofs.Common.{◌≡◌, subst, Option, Some, None, Result, Ok, Err}
use Rattle.std.specs.Prelude.{IfOk, IfNone}
use Rattle.fibs_fields.specs.Board.{BoardFields}
use Rattle.fibs_events.specs.Happenings.{NonePlayed, roller_of, seen_by}
use Rattle.fibs_events.specs.Played.{NoneIsPlayed}
use Rattle.fibs_events.specs.declared.event.Side.{Side}
use Rattle.fibs_events.proofs.FindingLemmas.{if_none_then, something_is_it}

-- what is true if there is nothing, is true
pub none_of : {X : Type 0} (o : Option X) (A : Type 0) → o ≡ None → IfNone o A → A
none_of None A is then = then
none_of (Some x) A is then = absurd cc

-- no play is found between two boards as they are seen
pub none_as_seen : {X : Type 0} (o : Option X) (a seen b after : BoardFields) → o ≡ None
    → IfNone o (NoneIsPlayed seen after) → seen ≡ a → after ≡ b → NoneIsPlayed a b
none_as_seen o a seen b after is none same alike =
    subst (λ (y : BoardFields). NoneIsPlayed a y) alike
    (subst (λ (x : BoardFields). NoneIsPlayed x after) same (none_of o (NoneIsPlayed seen after) is none))

-- if no play of the side that has rolled is found, none is of any side that has rolled: there is just one
pub none_of_the_roller : (b a : BoardFields) (who : Side) → roller_of b ≡ Some who
    → NoneIsPlayed (seen_by who b) (seen_by who a) → NonePlayed b a
none_of_the_roller b a who is none side same good =
    subst (λ (s : Side). NoneIsPlayed (seen_by s b) (seen_by s a)) (something_is_it same is) none

-- if a call answers nothing, what follows from what is true then is true too
pub if_ok_none_then : {X E : Type 0} (r : Result (Option X) E) (A B : Type 0) → (A → B)
    → IfOk r (λ o. IfNone o A) → IfOk r (λ o. IfNone o B)
if_ok_none_then (Ok o) A B then is = if_none_then o A B then is
if_ok_none_then (Err e) A B then is = is
