-- What a typed line asks for (the project's own).
use Rattle.std.specs.Prelude.{◌≡◌, ◌++◌, ◌⊎◌, true, false, ℕ, nat_lt, length, List, [], codes, Some, None, Result, IfOk}
use Rattle.fibs_rules.specs.Hop.{Hop}
use Rattle.fibs_position.specs.DecisionValue.{move}
use Rattle.fibs_position.specs.declared.numbers.Numbers.{Numbers}
use Rattle.fibs_session.specs.History.Machine.{Talk}
use Rattle.fibs_session.specs.Calls.Standing.{ClientValue, StandsAfter}
use Rattle.fibs_session.specs.Typing.{decided, typed_by, typed_decision, typed_now, is_command, way_now, would_take}
use Rattle.fibs_connect.specs.Wishes.{WishValue, takes_turn, is_too_long, typed_limit}
use Rattle.fibs_connect.specs.declared.wish.Wish.{Wish}
use Rattle.fibs_connect.specs.declared.wish.Wish.TheVariants.{Send}
use Rattle.fibs_advice.specs.declared.standing.Standing.{Standing}
use Rattle.fibs_advice.specs.Spelling.{IsMeantBy, steps_shown}
use Rattle.fibs_terminal.specs.Sending.{Decides, DecidesIf}
use Rattle.fibs_terminal.specs.Talking.{GoesAsTyped}

-- an empty line asks to hear the server; a line that is too long is reported as such
abbrev pub AsksInBounds : List ℕ → WishValue → Type 0
AsksInBounds line wish = (line ≡ [] → wish ≡ takes_turn None)
    × (nat_lt typed_limit (length line) ≡ true → wish ≡ is_too_long)

-- a line is taken as another: the client reads in that what the user means, by the numbers that he reads, and answers
-- it; or it goes out as a decision for which the server has asked
abbrev pub IsTakenAs : Numbers → Talk → Standing → List ℕ → List ℕ → Wish → Type 0
IsTakenAs numbers t standing before after wish = (typed_now t after ≡ typed_by numbers t before)
    × DecidesIf t standing (decided (typed_by numbers t before)) wish

-- it is never respelled if the client reads the same in it
pub record GoesOnAs (numbers : Numbers) (t : Talk) (standing : Standing) (before after : List ℕ) (wish : Wish) : Type 0
  where
    pub stays : typed_now t before ≡ typed_by numbers t before → after ≡ before
    pub means : nat_lt 0 (length before) ≡ true → nat_lt typed_limit (length before) ≡ false
        → IsTakenAs numbers t standing before after wish

-- talk that the client refuses for its letters alone goes to the server as it was typed
pub record GoesOut (t : Talk) (before after : List ℕ) (wish : Wish) : Type 0 where
  pub same : after ≡ before
  pub sends : wish ≡ Send
  pub talk : GoesAsTyped t before

-- a command is taken as another line, or goes out as such talk
abbrev pub IsTakenOrGoes : Numbers → Talk → Standing → List ℕ → List ℕ → Wish → Type 0
IsTakenOrGoes numbers t standing before after wish =
    IsTakenAs numbers t standing before after wish ⊎ GoesOut t before after wish

-- so goes each line that is a command by these numbers: a decision, a line to people, an order. A move is taken as the
-- play of its steps, and goes out as its command in the server's numbers
abbrev pub KnownGoesOn : {E : Type 0} → ClientValue → Numbers → Standing → List ℕ → List ℕ → Result Wish E → Type 0
KnownGoesOn client numbers standing before after result = IfOk result (λ wish. (t : Talk) → StandsAfter client t
    → is_command (typed_by numbers t before) ≡ true
    → GoesOnAs numbers t standing before after wish ⊎ GoesOut t before after wish)

-- a play is taken: by the direction of the board that is shown the client reads it in the line that goes on, and
-- answers it; or it goes out as a decision for which the server has asked
pub record TakesPlay (t : Talk) (standing : Standing) (play : List Hop) (after : List ℕ) (wish : Wish) : Type 0 where
  pub reads : typed_now t after ≡ typed_decision (move play)
  pub decides : Decides t standing (move play) wish

-- so goes each other line that shows steps by the numbers that the user reads, in whatever spelling: it is taken as the
-- play that is meant by them
abbrev pub ShownGoesOn : {E : Type 0} → ClientValue → Numbers → Standing → List ℕ → List ℕ → Result Wish E → Type 0
ShownGoesOn client numbers standing before after result = IfOk result (λ wish. (t : Talk) → StandsAfter client t
    → nat_lt typed_limit (length before) ≡ false → is_command (typed_by numbers t before) ≡ false
    → (steps : List Hop) → steps_shown (way_now numbers t) before ≡ Some steps
    → (play : List Hop) × IsMeantBy t steps play × TakesPlay t standing play after wish)

-- what `re` tells to who spoke last, by his whole name
abbrev pub tell_line : List ℕ → List ℕ → List ℕ
tell_line speaker text = codes "tell " ++ (speaker ++ (codes " " ++ text))

-- a line goes as it is only if the client would not take it
abbrev pub SendsUntaken : {E : Type 0} → ClientValue → List ℕ → Result Wish E → Type 0
SendsUntaken client line result = IfOk result (λ wish. wish ≡ Send → (t : Talk) → StandsAfter client t
    → would_take t (typed_now t line) ≡ false)
