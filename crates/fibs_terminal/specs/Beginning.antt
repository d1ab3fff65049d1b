-- Who begins a match in which the server would play for him, or the client take no decision since it did at the login,
-- is asked first, once in a login (the project's own).
use Rattle.std.specs.Prelude.{◌≡◌, ◌⊎◌, ◌&&◌, ◌||◌, ℕ, Bool, true, false, not, List, Option, Some, Result, IfOk}
use Rattle.fibs_position.specs.declared.numbers.Numbers.{Numbers}
use Rattle.fibs_commands.specs.PlainCommands.{PlainValue, invite, invite_to, join, join_with}
use Rattle.fibs_session.specs.History.Machine.{Talk}
use Rattle.fibs_session.specs.Calls.Standing.{ClientValue, StandsAfter}
use Rattle.fibs_session.specs.Typing.{TypedValue, typed_plain, is_command, typed_by, typed_now}
use Rattle.fibs_connect.specs.declared.wish.Wish.{Wish}
use Rattle.fibs_connect.specs.declared.wish.Wish.TheVariants as W
use Rattle.fibs_advice.specs.declared.standing.Standing.{Standing}
use Rattle.fibs_terminal.specs.Asking.{GoesOnAs, GoesOut}
use Rattle.fibs_terminal.specs.Toggles.{any_on}
use Rattle.fibs_terminal.specs.declared.leaving.Leave.{Leave}
use Rattle.fibs_terminal.specs.declared.leaving.Leave.TheVariants as L
use Rattle.fibs_terminal.specs.declared.memory.Connection.{Connection}

-- a command that begins a match: it invites, or joins
abbrev pub is_beginning : PlainValue → Bool
is_beginning (invite name) = true
is_beginning (invite_to name points) = true
is_beginning join = true
is_beginning (join_with name) = true
is_beginning p = false

-- the client reads such a command in a line
abbrev pub begins_in : TypedValue → Bool
begins_in (typed_plain p) = is_beginning p
begins_in typed = false

-- the server plays for the user on a connection: it said so at the login, or does so now
abbrev pub plays_for : Connection → Bool
plays_for c = c.greeting.plays_itself || any_on c.toggles

-- he is asked now: the client would answer such a line, and he was not asked on this connection
abbrev pub is_asked_now : Bool → Bool → Wish → Bool → Bool
is_asked_now plays before W.Say begins = plays && (not before && begins)
is_asked_now plays before wish begins = false

-- such a line is only answered
pub record IsWarned (client : ClientValue) (plays before : Bool) (line : List ℕ) (wish : Wish) : Type 0 where
  pub plays_now : plays ≡ true
  pub first : before ≡ false
  pub begins : (t : Talk) → StandsAfter client t → begins_in (typed_now t line) ≡ true
  pub answered : wish ≡ W.Answered

-- the law of beginning: as long as the server plays for the user, none of his lines begins a match unless he was asked
-- on this connection; he is asked by the first such line, and by no other one
pub record AsksFirst (client : ClientValue) (plays before after : Bool) (line : List ℕ) (wish : Wish) : Type 0 where
  pub asked : (t : Talk) → StandsAfter client t → plays ≡ true → wish ≡ W.Say → begins_in (typed_now t line) ≡ true
      → before ≡ true
  pub kept : before ≡ true → after ≡ true
  pub once : before ≡ false → after ≡ true → IsWarned client plays before line wish

-- so goes each line that is a command by these numbers, as KnownGoesOn says, unless the user is asked about it: whether
-- he leaves by `bye`, or whether he begins a match
abbrev pub KnownGoesOnOrWarns : {E : Type 0} → ClientValue → Numbers → Standing → Option Leave → Bool → Bool → List ℕ
    → List ℕ → Result Wish E → Type 0
KnownGoesOnOrWarns client numbers standing asked warned_before warned before after result = IfOk result
    (λ wish. ((warned_before ≡ false) × (warned ≡ true)) ⊎ ((t : Talk) → StandsAfter client t
    → is_command (typed_by numbers t before) ≡ true
    → GoesOnAs numbers t standing before after wish ⊎ (GoesOut t before after wish ⊎ (asked ≡ Some L.Bye))))
