-- Which plain command a text is: as a relation over all texts, and as a function by the first word and what follows it.
use Rattle.std.specs.Prelude.{◌≢◌, ◌≤◌, ◌++◌, ℕ, List, [], ◌∷◌, Option, None, Some, All, cond, codes, decimal, option_map}
use Rattle.std.specs.Option.{option_or}
use Rattle.std.specs.Str.{bytes_eq}
use Rattle.fibs_fields.specs.Decimal.{decimal_up_to}
use Rattle.fibs_fields.specs.Split.{before, after}
use Rattle.fibs_commands.specs.PlainCommands.{PlainValue, board_again, who, say, tell, shout, whisper, kibitz, leave_message, invite, invite_to, join, join_with, toggle_ready, automove_off, greedy_off, bye}

-- a name ends at the next space, so it has no space in it; it may be empty
abbrev pub NoSpace : List ℕ → Type 0
NoSpace name = All (λ byte. byte ≢ 32) name

-- a text, and how it follows what comes before it: not at all, which is the empty text, or as all that follows a
-- space
pub data TextField : List ℕ → List ℕ → Type 0 where
  no_text : TextField [] []
  rest_of_line : {text : List ℕ} → TextField text (32 ∷ text)

-- a name and a text after a word: no name, which is the empty one, and no text; or a space, the name, and the text
pub data NameAndText : List ℕ → List ℕ → List ℕ → Type 0 where
  no_name : NameAndText [] [] []
  name_then : {name text rest : List ℕ} → NoSpace name → TextField text rest
      → NameAndText name text (32 ∷ (name ++ rest))

-- the text is read as this command: its first word says which, a space begins a next field, and no field is left over
pub data ReadsAs : List ℕ → PlainValue → Type 0 where
  reads_board : ReadsAs (codes "board") board_again
  reads_who : ReadsAs (codes "who") who
  reads_bye : ReadsAs (codes "bye") bye
  reads_say : {text rest : List ℕ} → TextField text rest → ReadsAs (codes "say" ++ rest) (say text)
  reads_shout : {text rest : List ℕ} → TextField text rest → ReadsAs (codes "shout" ++ rest) (shout text)
  reads_whisper : {text rest : List ℕ} → TextField text rest → ReadsAs (codes "whisper" ++ rest) (whisper text)
  reads_kibitz : {text rest : List ℕ} → TextField text rest → ReadsAs (codes "kibitz" ++ rest) (kibitz text)
  reads_tell : {name text rest : List ℕ} → NameAndText name text rest
      → ReadsAs (codes "tell" ++ rest) (tell name text)
  reads_message : {name text rest : List ℕ} → NameAndText name text rest
      → ReadsAs (codes "message" ++ rest) (leave_message name text)
  reads_invite : ReadsAs (codes "invite") (invite [])
  reads_invite_of : {name : List ℕ} → NoSpace name → ReadsAs (codes "invite " ++ name) (invite name)
  reads_invite_to : {name : List ℕ} {points : ℕ} → NoSpace name → points ≤ 65535
      → ReadsAs (codes "invite " ++ (name ++ 32 ∷ decimal points)) (invite_to name points)
  reads_join : ReadsAs (codes "join") join
  reads_join_with : {name : List ℕ} → NoSpace name → ReadsAs (codes "join " ++ name) (join_with name)
  reads_ready : ReadsAs (codes "toggle ready") toggle_ready
  reads_automove : ReadsAs (codes "toggle automove") automove_off
  reads_greedy : ReadsAs (codes "toggle greedy") greedy_off

-- the same as a function

-- an absent text is the empty one
abbrev pub text_in : Option (List ℕ) → List ℕ
text_in None = []
text_in (Some text) = text

-- an absent name is the empty one; any other name ends at the next space
abbrev pub name_in : Option (List ℕ) → List ℕ
name_in None = []
name_in (Some rest) = before 32 rest

-- what follows the space after a name
abbrev pub after_name : Option (List ℕ) → Option (List ℕ)
after_name None = None
after_name (Some rest) = after 32 rest

-- a word alone
unfoldable pub alone_in : List ℕ → Option (List ℕ) → Option PlainValue
alone_in word (Some rest) = None
alone_in word None =
    cond (bytes_eq word (codes "board")) (Some board_again)
    (cond (bytes_eq word (codes "who")) (Some who)
    (cond (bytes_eq word (codes "bye")) (Some bye) None))

-- a word and a text
unfoldable pub saying_in : List ℕ → List ℕ → Option PlainValue
saying_in word text =
    cond (bytes_eq word (codes "say")) (Some (say text))
    (cond (bytes_eq word (codes "shout")) (Some (shout text))
    (cond (bytes_eq word (codes "whisper")) (Some (whisper text))
    (cond (bytes_eq word (codes "kibitz")) (Some (kibitz text)) None)))

-- a word, a name and a text
unfoldable pub letter_in : List ℕ → List ℕ → List ℕ → Option PlainValue
letter_in word name text =
    cond (bytes_eq word (codes "tell")) (Some (tell name text))
    (cond (bytes_eq word (codes "message")) (Some (leave_message name text)) None)

-- whom a user invites, and for how many points
unfoldable pub invitation_in : List ℕ → Option (List ℕ) → Option PlainValue
invitation_in name None = Some (invite name)
invitation_in name (Some points) = option_map (λ n. invite_to name n) (decimal_up_to 65535 points)

-- a name and nothing more
abbrev pub only : List ℕ → Option (List ℕ) → Option PlainValue
only name None = Some (join_with name)
only name (Some rest) = None

-- whom a user joins
unfoldable pub joining_in : Option (List ℕ) → Option PlainValue
joining_in None = Some join
joining_in (Some rest) = only (before 32 rest) (after 32 rest)

-- what a user toggles
unfoldable pub toggle_in : Option (List ℕ) → Option PlainValue
toggle_in None = None
toggle_in (Some setting) =
    cond (bytes_eq setting (codes "ready")) (Some toggle_ready)
    (cond (bytes_eq setting (codes "automove")) (Some automove_off)
    (cond (bytes_eq setting (codes "greedy")) (Some greedy_off) None))

-- the command of a first word and of what follows the space after it
unfoldable pub plain_in : List ℕ → Option (List ℕ) → Option PlainValue
plain_in word rest =
    cond (bytes_eq word (codes "invite")) (invitation_in (name_in rest) (after_name rest))
    (cond (bytes_eq word (codes "join")) (joining_in rest)
    (cond (bytes_eq word (codes "toggle")) (toggle_in rest)
    (option_or (saying_in word (text_in rest))
    (option_or (letter_in word (name_in rest) (text_in (after_name rest))) (alone_in word rest)))))

-- the plain command of a text
unfoldable pub read_plain : List ℕ → Option PlainValue
read_plain text = plain_in (before 32 text) (after 32 text)
