-- What the calls of a world promise, in the words of the machine.
use Rattle.std.specs.Prelude.{◌≡◌, ℕ, List, [], ◌∷◌, Option, None, Some, Result, Ok, Err}
use Rattle.fibs_fields.specs.Board.{BoardFields}
use Rattle.fibs_position.specs.GoodBoard.{IsGood}
use Rattle.fibs_commands.specs.Logins.{IsLogin, login_text}
use Rattle.fibs_model.specs.Events.{Event}
use Rattle.fibs_model.specs.Refusals.{refusal}
use Rattle.fibs_model.specs.Runs.{MayBe, world_after}
use Rattle.fibs_model.specs.World.{World}
use Rattle.fibs_model.specs.WorldOf.{WorldValue, StandsFor}
use Rattle.fibs_model.specs.declared.halt.Stop.{Stop}
use Rattle.fibs_model.specs.declared.halt.Stop.TheVariants.{Refused, Broken}
use Rattle.fibs_game.specs.declared.world_refusal.WorldRefusal.{WorldRefusal}
use Rattle.fibs_game.specs.declared.world_refusal.WorldRefusal.TheVariants.{Memory}

-- the machine's world after the events, from the first board on, for the login of a name and a password
abbrev pub machine_after : List ℕ → List ℕ → BoardFields → List Event → World
machine_after name password first events = world_after (login_text name password) first events

-- the value of a world is the one after these events, none of which was refused
pub record IsAfter (v : WorldValue) (name password : List ℕ) (first : BoardFields) (events : List Event) : Type 0 where
  pub is_login : IsLogin name password
  pub is_good : IsGood first
  pub may_be : MayBe (login_text name password) first events
  pub stands : StandsFor v (login_text name password) (machine_after name password first events)

-- The world is reached by the events: the name and the password are a login, the first board is good, no event is
-- refused when it comes, and the world is the one after them. Callers use this name, and never unfold it.
unfoldable pub WorldStandsAfter : WorldValue → List ℕ → List ℕ → BoardFields → List Event → Type 0
WorldStandsAfter v name password first events = IsAfter v name password first events

-- why an event was refused, beside the table's answer: the answer is that memory ran out only if the table refuses
-- nothing
abbrev pub Tells : WorldRefusal → Option WorldRefusal → Type 0
Tells Memory answer = answer ≡ None
Tells why answer = answer ≡ Some why

-- no refusal exactly if the table has none, except that memory ran out
abbrev pub Agrees : Option WorldRefusal → Option WorldRefusal → Type 0
Agrees None answer = answer ≡ None
Agrees (Some why) answer = Tells why answer

-- the same for an event that goes over a carrier, which breaks only if the table refuses nothing
abbrev pub Halts : Option Stop → Option WorldRefusal → Type 0
Halts None answer = answer ≡ None
Halts (Some (Refused why)) answer = Tells why answer
Halts (Some Broken) answer = answer ≡ None

-- the event, if it was accepted
abbrev pub accepted : {E : Type 0} → Result (Unit {0}) E → Event → List Event
accepted (Ok done) e = e ∷ []
accepted (Err why) e = []

-- a run stopped at the first event that is left: the table refuses it there, or there was no memory
abbrev pub Stops : Option WorldRefusal → World → List Event → Type 0
Stops None w left = left ≡ []
Stops (Some why) w [] = ⊥
Stops (Some why) w (e ∷ later) = Tells why (refusal w e)

-- the same for a run over a carrier, which may also have broken there
abbrev pub HaltsAt : Option Stop → World → List Event → Type 0
HaltsAt None w left = left ≡ []
HaltsAt (Some stop) w [] = ⊥
HaltsAt (Some stop) w (e ∷ later) = Halts (Some stop) (refusal w e)
