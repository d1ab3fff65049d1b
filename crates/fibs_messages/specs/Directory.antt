-- The directory of a list of messages: what messages 5 and 8 (CLIP 1008) say of players.
-- That these two keep a directory, and in which order, is the project's own choice.
pub mod View
pub mod Steps
pub mod Faults
pub mod Laws
use Rattle.std.specs.Prelude.{◌≡◌, ℕ, ◌+◌, ◌-◌, ◌<◌, Bool, ◌&&◌, ◌==◌, List, [], ◌∷◌, length, map, filter, Option, None}
use Rattle.std.specs.List.{AllPairs, after_last, find, last_or, position_or_len}
use Rattle.std.specs.Str.{bytes_eq}
use Rattle.fibs_fields.specs.Field.{FieldValue, NameField}
use Rattle.fibs_messages.specs.Message.{MessageValue}

-- how many names a directory holds at most
abbrev pub directory_limit : ℕ
directory_limit = 4096

-- the name that is first in a list of fields
abbrev pub first_name : List FieldValue → List ℕ
first_name (NameField name ∷ fields) = name
first_name fields = []

-- the name that a message begins with: the player that messages 5 and 8 are about
abbrev pub name_of : MessageValue → List ℕ
name_of message = first_name message.fields

-- whether the message begins with this name
abbrev pub is_of : List ℕ → MessageValue → Bool
is_of name message = bytes_eq name (name_of message)

-- message 5 of this name: who info
abbrev pub tells : List ℕ → MessageValue → Bool
tells name message = message.number == 5 && is_of name message

-- message 8 of this name: a logout
abbrev pub logs_out : List ℕ → MessageValue → Bool
logs_out name message = message.number == 8 && is_of name message

-- what came after the last message 8 of a name: all, if there is none
abbrev pub since_logout : List ℕ → List MessageValue → List MessageValue
since_logout name messages = after_last (logs_out name) messages

-- the last message 5 of a name since then
abbrev pub last_told : List ℕ → List MessageValue → Option MessageValue
last_told name messages = last_or None (filter (tells name) (since_logout name messages))

-- the place in the list of the first message 5 of a name since then
abbrev pub first_place : List ℕ → List MessageValue → ℕ
first_place name messages =
    let since = since_logout name messages in
    length messages - length since + position_or_len (tells name) since

-- the entry of a name
abbrev pub entry_of : List ℕ → List MessageValue → Option MessageValue
entry_of name entries = find (is_of name) entries

-- these are the entries of the directory of a list of messages
pub record IsDirectory (messages entries : List MessageValue) : Type 0 where
  -- each name with a message 5 after its last message 8 has its last message 5 as entry, and no other name has one
  pub each : (name : List ℕ) → entry_of name entries ≡ last_told name messages
  -- they are in the order of each name's first message 5 since then, so that no name has two
  pub order : AllPairs (λ a b. first_place a messages < first_place b messages) (map name_of entries)
