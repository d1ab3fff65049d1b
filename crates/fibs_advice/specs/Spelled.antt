-- How a line is spelled that the client does not know as it was typed (the project's own).
use Rattle.std.specs.Prelude.{◌≡◌, ◌++◌, ◌∷◌, ◌==◌, ◌⊎◌, ◌||◌, ℕ, Bool, List, [], codes, map, Option, Some, None, option_map, if◌then◌else◌}
use Rattle.std.specs.Char.{to_ascii_lowercase}
use Rattle.std.specs.Str.{bytes_eq}
use Rattle.fibs_commands.specs.Commands.{command_of}
use Rattle.fibs_fields.specs.Spaces.{without_spaces}
use Rattle.fibs_fields.specs.Split.{before, after}
use Rattle.fibs_position.specs.DecisionValue.{move}
use Rattle.fibs_position.specs.declared.direction.Direction.{Direction}
use Rattle.fibs_rules.specs.Hop.{Hop}
use Rattle.fibs_rules.specs.PlayValue.{hops_of}
use Rattle.fibs_rules.specs.declared.play.Play.{Play}
use Rattle.fibs_session.specs.History.Machine.{Talk}
use Rattle.fibs_advice.specs.Spelling.{IsMeantBy, steps_shown}

-- the line without the spaces before its first word
abbrev pub from_first : List ℕ → List ℕ
from_first [] = []
from_first (b ∷ s) = if b == 32 then from_first s else b ∷ s

-- letters in small
abbrev pub small : List ℕ → List ℕ
small text = map to_ascii_lowercase text

-- a word, and what follows it after one space, if something does
abbrev pub joined : List ℕ → Option (List ℕ) → List ℕ
joined word None = word
joined word (Some rest) = word ++ (codes " " ++ rest)

-- the word for a short one
abbrev pub long_word : List ℕ → List ℕ
long_word word =
    if bytes_eq word (codes "r") then codes "roll" else
    if bytes_eq word (codes "m") then codes "move" else
    if bytes_eq word (codes "k") then codes "kibitz" else
    if bytes_eq word (codes "t") then codes "tell" else
    if bytes_eq word (codes "?") then codes "help" else word

-- the rest of the line goes to people, or to the server as it is
abbrev pub is_talk : List ℕ → Bool
is_talk word = bytes_eq (codes "say") word || (bytes_eq (codes "tell") word || (bytes_eq (codes "shout") word
    || (bytes_eq (codes "whisper") word || (bytes_eq (codes "kibitz") word || (bytes_eq (codes "message") word
    || (bytes_eq (codes "re") word || bytes_eq (codes "send") word))))))

-- names follow, whose capitals stay
abbrev pub takes_name : List ℕ → Bool
takes_name word = bytes_eq (codes "invite") word || (bytes_eq (codes "join") word
    || (bytes_eq (codes "gag") word || (bytes_eq (codes "ungag") word || bytes_eq (codes "matches") word)))

-- the first word of a line, in small letters, with the long word for a short one
abbrev pub first_word : List ℕ → List ℕ
first_word line = long_word (small (before 32 (from_first line)))

-- what follows it, as it was typed
abbrev pub typed_rest : List ℕ → Option (List ℕ)
typed_rest line = after 32 (from_first line)

-- talk: all after its first word stays as it was typed
abbrev pub talk_spelled : List ℕ → List ℕ
talk_spelled line = joined (first_word line) (typed_rest line)

-- a line with a name: the spaces at its end are left out
abbrev pub name_spelled : List ℕ → List ℕ
name_spelled line = joined (first_word line) (option_map without_spaces (typed_rest line))

-- a line of small letters, with the long word for a short one
abbrev pub word_spelled : List ℕ → List ℕ
word_spelled line = joined (long_word (before 32 line)) (after 32 line)

-- any other line: all of it in small letters, without the spaces at its ends
abbrev pub small_line : List ℕ → List ℕ
small_line line = small (without_spaces (from_first line))

-- the line without the spaces at its ends, and its first word in small letters
abbrev pub small_first : List ℕ → List ℕ
small_first line = joined (small (before 32 (without_spaces (from_first line))))
    (after 32 (without_spaces (from_first line)))

-- a text is the command of the move that a line shows, by the numbers by which the user goes this way: the move that is
-- meant by its steps
pub record IsMove (t : Talk) (way : Direction) (line text : List ℕ) : Type 0 where
  pub steps : List Hop
  pub shown : steps_shown way line ≡ Some steps
  pub play : Play
  pub meant : IsMeantBy t steps (hops_of play)
  pub is : text ≡ command_of way (move (hops_of play))

-- what is appended is such a command
pub record SaysMove (t : Talk) (way : Direction) (line old new : List ℕ) : Type 0 where
  pub command : List ℕ
  pub move : IsMove t way line command
  pub appended : new ≡ old ++ command

-- a line of small letters is spelled as its words, or as the move that it shows
abbrev pub Spells : Talk → Direction → List ℕ → List ℕ → List ℕ → Type 0
Spells t way line old new = (new ≡ old ++ word_spelled line) ⊎ SaysMove t way line old new
