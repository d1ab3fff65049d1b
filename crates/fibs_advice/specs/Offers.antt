-- What may be decided now, and how a terminal says it (the project's own).
use Rattle.std.specs.Prelude.{◌≡◌, ◌++◌, ◌||◌, ℕ, List, [], codes, Bool, true, false, Option, Some, None, IfSome, is_none, is_some}
use Rattle.fibs_commands.specs.Commands.{command_of}
use Rattle.fibs_position.specs.declared.decision.Decision.{Decision}
use Rattle.fibs_position.specs.declared.decision.Decision.TheVariants as D
use Rattle.fibs_position.specs.declared.direction.Direction.{Direction}
use Rattle.fibs_position.specs.DecisionValue.{DecisionValue, roll, double, accept, reject, move}
use Rattle.fibs_position.specs.DirectionOf.{direction_of}
use Rattle.fibs_position.specs.NumbersOf.{counted}
use Rattle.fibs_position.specs.declared.numbers.Numbers.{Numbers}
use Rattle.fibs_rules.specs.declared.play.Play.{Play}
use Rattle.fibs_rules.specs.PlayValue.{hops_of}
use Rattle.fibs_session.specs.History.Machine.{Talk, answer_now, shown_now}
use Rattle.fibs_advice.specs.declared.offers.Offers.{Offers}

-- the client takes a decision now: by the history nothing refuses it
abbrev pub is_taken : Talk → DecisionValue → Bool
is_taken t d = is_none (answer_now t d)

-- what is offered is what the client takes now, and the move that is named is one that it takes
pub record OffersNow (t : Talk) (o : Offers) : Type 0 where
  pub roll : o.roll ≡ is_taken t roll
  pub double : o.double ≡ is_taken t double
  pub accept : o.accept ≡ is_taken t accept
  pub reject : o.reject ≡ is_taken t reject
  pub example : IfSome o.example (λ play. is_taken t (move (hops_of play)) ≡ true)
  -- what goes to the server is in the numbers of the board that is shown
  pub direction : IfSome (shown_now t) (λ b. o.direction ≡ direction_of b)

-- the first decision that may be made: to roll, else to move
abbrev pub first_way : Bool → Option Play → Option Decision
first_way true play = Some D.Roll
first_way false None = None
first_way false (Some play) = Some (D.Move play)

-- something may be decided now
abbrev pub may_decide : Offers → Bool
may_decide o = o.roll || (o.double || (o.accept || (o.reject || is_some o.example)))

-- a move, as it is typed by numbers by which the user goes this way
abbrev pub example_text : Direction → Option Play → List ℕ
example_text way None = []
example_text way (Some play) =
    codes "Your move, as in: " ++ (command_of way (move (hops_of play)) ++ codes "\n")

-- to roll, and to double only if that is taken too; to answer a double
abbrev pub hint_words : Bool → Bool → Bool → Bool → List ℕ
hint_words true true _ _ = codes "Your turn: roll, or double.\n"
hint_words true false _ _ = codes "Your turn: roll.\n"
hint_words false _ true _ = codes "You are offered a double: accept, or reject.\n"
hint_words false _ false true = codes "You are offered a double: reject.\n"
hint_words false _ false false = []

-- the hint, in the numbers that the user reads: it names a decision only if the client takes it now, and is empty if
-- the client takes none
abbrev pub hint_text : Numbers → Offers → List ℕ
hint_text numbers o =
    hint_words o.roll o.double o.accept o.reject ++ example_text (counted numbers o.direction) o.example
