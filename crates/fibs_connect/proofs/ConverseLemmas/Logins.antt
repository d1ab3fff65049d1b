-- What is kept of a password determines all that is wrong with it.
use Rattle.std.proofs.Common.{◌≡◌, ℕ, ◌<◌, Bool, false, List, length, length-take, take, [], ◌++◌, Option, Some, None, Result, refl, ap, sym, subst, ◌∙◌, arith, inl, inr}
use Rattle.std.specs.Prelude.{nat_le}
use Rattle.std.proofs.lemmas.Bool.{cases_lt}
use Rattle.std.proofs.lemmas.Bool.Decides.{nat_tests}
use Rattle.std.proofs.lemmas.List.{take_all}
use Rattle.fibs_commands.specs.Logins.{login_fault, password_fault}
use Rattle.fibs_commands.specs.PlainCommands.{first_of, name_fault}
use Rattle.fibs_commands.specs.declared.plain.PlainFault.{PlainFault}
use Rattle.fibs_commands.specs.declared.plain.PlainFault.TheVariants.{TooLong}
use Rattle.std.specs.Borrow.{MutBor}
use Rattle.std.specs.Io.KnownBytes.{Keeps, prepend_known}
use Rattle.std.proofs.KnownBytes.{Keeps-refl}
use Rattle.fibs_engine.specs.declared.fault.EngineFault.{EngineFault}
use Rattle.fibs_connect.specs.TypedLines.{typed_line}
use Rattle.fibs_connect.specs.TypedReads.{TakesLine}
use Rattle.fibs_connect.specs.Converse.Ending.{EndsBy, ConversedOver}

-- a password of more than 64 bytes is too long
too_long : (text : List ℕ) → 64 < length text → password_fault text ≡ Some TooLong
too_long text long = let no : nat_le (length text) 64 ≡ false = grind (arith, nat_tests) in rw no refl

-- the login has the same fault if only the first 4097 bytes of a password are kept
pub kept_password : (name password : List ℕ) → login_fault name (take 4097 password) ≡ login_fault name password
unfolding login_fault
kept_password name password = elim (cases_lt (length password) 4098) [
  | inl h ↦ ap (λ (l : List ℕ). first_of (name_fault name) (password_fault l)) (take_all 4097 password (omega arith))
  | inr h ↦ ap (first_of (name_fault name)) (too_long (take 4097 password) (omega (arith, length-take 4097 password))
      ∙ sym (too_long password (omega arith)))
]

-- before anything was read nothing waits
all_ahead : (waiting : List ℕ) (left : Option (List ℕ)) → waiting ≡ [] → prepend_known waiting left ≡ left
all_ahead waiting None e = refl
all_ahead waiting (Some typed) e = ap (λ (l : List ℕ). Some (l ++ typed)) e

-- a conversation whose password line was read ends by the fault of the login
over_by : (name line : List ℕ) (left still : Option (List ℕ)) (found : Bool) (fault : Option PlainFault)
    (result : Result ℕ EngineFault) (Nothing : Type 0) (other then : Option (List ℕ))
    → TakesLine left still line found → fault ≡ login_fault name line → EndsBy fault result Nothing other then
    → ConversedOver name left result Nothing other then
over_by name line None still found fault result Nothing other then takes is ends = tt
over_by name line (Some typed) None found fault result Nothing other then takes is ends = absurd takes
over_by name line (Some typed) (Some rest) found fault result Nothing other then takes is ends =
    subst (λ f. EndsBy f result Nothing other then) (is ∙ ap (login_fault name) takes.0
    ∙ kept_password name (typed_line typed)) ends

-- the first line that was read is the password
pub conversed_by : (name line waiting : List ℕ) (left still : Option (List ℕ)) (found : Bool)
    (fault : Option PlainFault) (result : Result ℕ EngineFault) (Nothing : Type 0) (other then : Option (List ℕ))
    → waiting ≡ [] → TakesLine (prepend_known waiting left) still line found → fault ≡ login_fault name line
    → EndsBy fault result Nothing other then
    → ConversedOver name left result Nothing other then
conversed_by name line waiting left still found fault result Nothing other then none takes is ends =
    over_by name line left still found fault result Nothing other then
    (subst (λ l. TakesLine l still line found) (all_ahead waiting left none) takes) is ends

-- what follows from what says that nothing went to the first writer may stand in its place
pub conversed_weaker : (name : List ℕ) (left : Option (List ℕ)) (result : Result ℕ EngineFault) (P Q : Type 0)
    (other then : Option (List ℕ)) → (P → Q) → ConversedOver name left result P other then
    → ConversedOver name left result Q other then
conversed_weaker name None result P Q other then f h = tt
conversed_weaker name (Some typed) result P Q other then f h = by_fault (login_fault name (typed_line typed)) h
  where
    by_fault : (fault : Option PlainFault) → EndsBy fault result P other then → EndsBy fault result Q other then
    by_fault None k = k
    by_fault (Some why) k = (k.0, f k.1)

-- if what has a reference stays the same, so does what the writer behind the reference holds
pub kept_behind : {F W : Type 0} (out : F → MutBor W) (contents : W → Option (List ℕ)) (a b : F) (x : W)
    → ((out b).ghost_name ≡ (out a).ghost_name → x ≡ (out b).now) → b ≡ a
    → Keeps (contents (out a).now) (contents x)
kept_behind {F} {W} out contents a b x ends same =
    subst (λ w. Keeps (contents (out a).now) (contents w))
    (sym (ends (ap (λ c. (out c).ghost_name) same) ∙ ap (λ c. (out c).now) same)) (Keeps-refl (contents (out a).now))
