-- The commands of a player that decide nothing in the game, as the FIBS server reads them, and what is wrong with one
-- that has no text.
use Rattle.std.specs.Prelude.{◌++◌, ◌&&◌, ℕ, Bool, List, ◌∷◌, Option, None, Some, cond, codes, decimal, length, nat_le, nat_lt}
use Rattle.std.specs.List.{list_all}
use Rattle.fibs_fields.specs.Name.{is_name}
use Rattle.fibs_commands.specs.declared.plain.PlainFault.{PlainFault}
use Rattle.fibs_commands.specs.declared.plain.PlainFault.TheVariants.{BadName, BadText, TooLong}

-- a plain command: what is said, to whom, and for how long a match
pub data PlainValue : Type 0 where
  board_again : PlainValue
  who : PlainValue
  say : List ℕ → PlainValue
  tell : List ℕ → List ℕ → PlainValue
  shout : List ℕ → PlainValue
  whisper : List ℕ → PlainValue
  kibitz : List ℕ → PlainValue
  leave_message : List ℕ → List ℕ → PlainValue
  invite : List ℕ → PlainValue
  invite_to : List ℕ → ℕ → PlainValue
  join : PlainValue
  join_with : List ℕ → PlainValue
  toggle_ready : PlainValue
  automove_off : PlainValue
  greedy_off : PlainValue
  bye : PlainValue

-- its text, without a line end: the word, then the name, the length and the text, each after one space
unfoldable pub plain_of : PlainValue → List ℕ
plain_of board_again = codes "board"
plain_of who = codes "who"
plain_of (say text) = codes "say " ++ text
plain_of (tell name text) = codes "tell " ++ (name ++ 32 ∷ text)
plain_of (shout text) = codes "shout " ++ text
plain_of (whisper text) = codes "whisper " ++ text
plain_of (kibitz text) = codes "kibitz " ++ text
plain_of (leave_message name text) = codes "message " ++ (name ++ 32 ∷ text)
plain_of (invite name) = codes "invite " ++ name
plain_of (invite_to name points) = codes "invite " ++ (name ++ 32 ∷ decimal points)
plain_of join = codes "join"
plain_of (join_with name) = codes "join " ++ name
plain_of toggle_ready = codes "toggle ready"
plain_of automove_off = codes "toggle automove"
plain_of greedy_off = codes "toggle greedy"
plain_of bye = codes "bye"

-- a printable byte of ASCII, or a space
abbrev pub is_text_byte : ℕ → Bool
is_text_byte byte = nat_le 32 byte && nat_le byte 126

-- one or more such bytes
abbrev pub is_printed : List ℕ → Bool
is_printed text = nat_lt 0 (length text) && list_all is_text_byte text

-- the first of two faults
abbrev pub first_of : Option PlainFault → Option PlainFault → Option PlainFault
first_of None later = later
first_of (Some fault) later = Some fault

-- what is wrong with a name
abbrev pub name_fault : List ℕ → Option PlainFault
name_fault name = cond (is_name name) None (Some BadName)

-- what is wrong with a text: it has more than 400 bytes, or does not consist of printed bytes
abbrev pub text_fault : List ℕ → Option PlainFault
text_fault text = cond (nat_le (length text) 400) (cond (is_printed text) None (Some BadText)) (Some TooLong)

-- what is wrong with the points of an invitation: they have more than 16 bits, which no invitation of the program has
abbrev pub points_fault : ℕ → Option PlainFault
points_fault points = cond (nat_le points 65535) None (Some TooLong)

-- what is wrong with a plain command, if it has no text: a fault of its name comes before one of its text
unfoldable pub plain_fault_of : PlainValue → Option PlainFault
plain_fault_of (say text) = text_fault text
plain_fault_of (tell name text) = first_of (name_fault name) (text_fault text)
plain_fault_of (shout text) = text_fault text
plain_fault_of (whisper text) = text_fault text
plain_fault_of (kibitz text) = text_fault text
plain_fault_of (leave_message name text) = first_of (name_fault name) (text_fault text)
plain_fault_of (invite name) = name_fault name
plain_fault_of (invite_to name points) = first_of (name_fault name) (points_fault points)
plain_fault_of (join_with name) = name_fault name
plain_fault_of plain = None
