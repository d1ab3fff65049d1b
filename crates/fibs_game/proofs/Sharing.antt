-- A spelling that two decisions share makes the headline false: the server carries out another decision than was sent.
use Rattle.std.proofs.Common.{◌≡◌, ℕ, true, false, List, [], ◌∷◌, ◌++◌, refl, sym, ◌∙◌, ap, true≢false}
use Rattle.std.specs.Prelude.{Bool}
use Rattle.fibs_game.specs.Counter.{Count, Raise, by_one, by_two, shared}
use Rattle.fibs_game.specs.Events.{Event, Open, Click, Deliver, Serve, Repeat, Text}
use Rattle.fibs_game.specs.Examples.{IsFalse}
use Rattle.fibs_game.specs.Machine.{hears_all}
use Rattle.fibs_game.specs.Runs.{MayBe, world_after}
use Rattle.fibs_game.specs.Wires.{next_line}
use Rattle.fibs_game.specs.Words.{sent, took}
use Rattle.fibs_game.specs.Orders.{is_due}

-- the count at first
none : Count
none = record { value = 0; yours = true }

-- A connection is opened and logs in. The server welcomes, says how it plays, and shows its count; the user raises it
-- by
-- two, and the server reads that he raises it by one.
abbrev events : List (Event shared)
events =
    Open ∷ Serve 1 1 1 ∷ Text (87 ∷ []) ∷ Text (73 ∷ []) ∷ Repeat ∷ Deliver 9 ∷ Click by_two ∷ Serve 1 1 1 ∷ Serve 1 1
    1 ∷ []

-- the login 'L' (76)
abbrev login : List ℕ
login = 76 ∷ []

-- none of them is refused
may_be : MayBe {G = shared} login (record { value = 0; yours = true }) events
unfolding MayBe next_line hears_all is_due
may_be = (refl, (refl, (refl, (refl, (refl, (refl, (refl, (refl, (refl, tt)))))))))

-- this was sent
sent_is : sent 1 (world_after {G = shared} login (record { value = 0; yours = true }) events).log
    ≡ (record { value = 0; yours = true }, by_two) ∷ []
unfolding world_after next_line hears_all is_due
sent_is = refl

-- and this took effect
took_is : took 1 (world_after {G = shared} login (record { value = 0; yours = true }) events).log
    ≡ (record { value = 0; yours = true }, by_one) ∷ []
unfolding world_after next_line hears_all is_due
took_is = refl

-- whether a list begins with a raise by two
abbrev is_two : List (Count × Raise) → Bool
is_two [] = false
is_two ((b, by_one) ∷ later) = false
is_two ((b, by_two) ∷ later) = true

-- so the headline is false
pub shared_is_false : IsFalse shared
shared_is_false = record {
  login = login;
  first = record { value = 0; yours = true };
  events = events;
  quiet = record { text = (refl, tt); quiet = λ b. refl };
  good = refl;
  may_be = may_be;
  not = λ h.
      let p = h.prefix 1 in
      true≢false (sym (ap is_two (ap (λ xs. xs ++ p.0) (sym took_is) ∙ p.1 ∙ sent_is)));
}
