-- No login, plain command or command that sets up a connection is the command of a decision.
use Rattle.std.proofs.Common.{◌≡◌, ℕ, ◌+◌, ◌*◌, ◌==◌, ◌||◌, Bool, true, false, List, Option, Some, None, get_or, refl, sym, ap, ◌∙◌, true≢false}
use Rattle.fibs_position.specs.DecisionValue.{DecisionValue, roll, double, accept, reject, move, resign}
use Rattle.fibs_position.specs.declared.direction.Direction.{Direction}
use Rattle.fibs_commands.specs.Commands.{command_of}
use Rattle.fibs_commands.specs.CommandReading.{read_command}
use Rattle.fibs_commands.specs.FirstCommands.{style_text, autoboard_text, moreboards_text, board_text}
use Rattle.fibs_commands.specs.Logins.{login_text}
use Rattle.fibs_commands.specs.PlainCommands.{PlainValue, board_again, who, say, tell, shout, whisper, kibitz, leave_message, invite, invite_to, join, join_with, toggle_ready, automove_off, greedy_off, bye, plain_of}
use Rattle.fibs_commands.specs.CommandLaws.{ReadCommandIsExact, IsSent, LoginsAreSent, PlainIsSent, FirstAreSent, IsOther, LoginIsOther, StyleIsOther, PlainIsOther, InitialAreOther}

-- a number of the first two letters, by which the words of decisions are known: that of `resign` is that of `reject`
abbrev letters : List ℕ → ℕ
letters text = 2 * get_or text 0 0 + get_or text 1 0

-- the numbers of the first two letters of `roll`, `double`, `accept`, `reject`, `resign` and `move`
abbrev is_letters : ℕ → Bool
is_letters n = n == 339 || n == 311 || n == 293 || n == 329

-- the commands of decisions begin with such letters
command_letters : (direction : Direction) (d : DecisionValue) → is_letters (letters (command_of direction d)) ≡ true
unfolding command_of
command_letters direction roll = refl
command_letters direction double = refl
command_letters direction accept = refl
command_letters direction reject = refl
command_letters direction (move steps) = refl
command_letters direction (resign stake) = refl

-- a text that begins with other letters is no decision
other : ReadCommandIsExact → (text : List ℕ) → IsSent text → is_letters (letters text) ≡ false → IsOther text
other exact text sent differs =
    record { printed = sent.printed; no_decision = λ direction. go direction (read_command direction text) refl }
  where
    go : (direction : Direction) (o : Option DecisionValue) → read_command direction text ≡ o → o ≡ None
    go direction None e = refl
    go direction (Some d) e =
        let h = (exact direction text d).0 e in
        absurd (true≢false (sym (command_letters direction d) ∙ ap (λ t. is_letters (letters t)) (sym h.text_is)
        ∙ differs))

-- a login does not
login_letters : (name password : List ℕ) → is_letters (letters (login_text name password)) ≡ false
unfolding login_text
login_letters name password = refl

-- no login is a decision
pub login_is_other : ReadCommandIsExact → LoginsAreSent → LoginIsOther
login_is_other exact sent name password h =
    other exact (login_text name password) (sent name password h) (login_letters name password)

-- nor is the command after the welcome
pub style_is_other : ReadCommandIsExact → FirstAreSent → StyleIsOther
unfolding style_text
style_is_other exact sent = other exact style_text sent.0 refl

-- nor are those after the settings
pub initial_are_other : ReadCommandIsExact → FirstAreSent → InitialAreOther
unfolding autoboard_text moreboards_text board_text
initial_are_other exact sent = (
  other exact autoboard_text sent.1 refl,
  other exact moreboards_text sent.2 refl,
  other exact board_text sent.3 refl,
)

-- no plain command does
plain_letters : (plain : PlainValue) → is_letters (letters (plain_of plain)) ≡ false
unfolding plain_of
plain_letters board_again = refl
plain_letters who = refl
plain_letters (say text) = refl
plain_letters (tell name text) = refl
plain_letters (shout text) = refl
plain_letters (whisper text) = refl
plain_letters (kibitz text) = refl
plain_letters (leave_message name text) = refl
plain_letters (invite name) = refl
plain_letters (invite_to name points) = refl
plain_letters join = refl
plain_letters (join_with name) = refl
plain_letters toggle_ready = refl
plain_letters automove_off = refl
plain_letters greedy_off = refl
plain_letters bye = refl

-- nor is a plain command
pub plain_is_other : ReadCommandIsExact → PlainIsSent → PlainIsOther
plain_is_other exact sent plain h = other exact (plain_of plain) (sent plain h) (plain_letters plain)
