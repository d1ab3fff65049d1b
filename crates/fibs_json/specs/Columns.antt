-- The numbered messages as members of an object: the word for each, and a name for each field (FIBS CLIP
-- specification 1008; docs/FORMATS.md).
use Rattle.std.specs.Prelude.{◌==◌, ℕ, List, [], ◌∷◌, Option, Some, None, map, codes, if◌then◌else◌}
use Rattle.std.specs.List.{flat_map}
use Rattle.std.specs.Str.{bytes_eq}
use Rattle.fibs_fields.specs.Field.{FieldValue, NameField, WordField, TailField, FlagField, NumberField, RatingField, TextField}
use Rattle.fibs_messages.specs.FieldOf.{field_at}
use Rattle.fibs_messages.specs.Message.{MessageValue}
use Rattle.fibs_json.specs.Json.{Json, string, whole, hundredths, truth, null, Member, member}
use Rattle.fibs_json.specs.declared.columns.Column.{Column}

-- a field's name, and its number in the message
pub record NamedField : Type 0 where
  pub name : List ℕ
  pub number : ℕ

-- the field of a number under its name
abbrev pub named : List ℕ → ℕ → NamedField
named name number = record { name = name; number = number }

-- a row of the table: a message's number, its word, and its fields
pub record NamedRow : Type 0 where
  pub number : ℕ
  pub word : List ℕ
  pub fields : List NamedField

-- a row by its number, its word and its fields
abbrev pub row : ℕ → List ℕ → List NamedField → NamedRow
row number word fields = record { number = number; word = word; fields = fields }

-- a name alone; a name and a text; a text alone
abbrev pub a_name : List NamedField
a_name = named (codes "name") 1 ∷ []

-- the fields of a message with a name and a text
abbrev pub a_name_and_text : List NamedField
a_name_and_text = named (codes "name") 1 ∷ named (codes "text") 2 ∷ []

-- the fields of a message with a text alone
abbrev pub a_text : List NamedField
a_text = named (codes "text") 1 ∷ []

-- the fields of message 2, own info
abbrev pub own_info : List NamedField
own_info = named (codes "name") 1
    ∷ named (codes "allowpip") 2 ∷ named (codes "autoboard") 3 ∷ named (codes "autodouble") 4
    ∷ named (codes "automove") 5 ∷ named (codes "away") 6 ∷ named (codes "bell") 7 ∷ named (codes "crawford") 8
    ∷ named (codes "double") 9 ∷ named (codes "experience") 10 ∷ named (codes "greedy") 11
    ∷ named (codes "moreboards") 12 ∷ named (codes "moves") 13 ∷ named (codes "notify") 14
    ∷ named (codes "rating") 15 ∷ named (codes "ratings") 16 ∷ named (codes "ready") 17
    ∷ named (codes "redoubles") 18 ∷ named (codes "report") 19 ∷ named (codes "silent") 20
    ∷ named (codes "timezone") 21 ∷ []

-- the fields of message 5, who info
abbrev pub who_info : List NamedField
who_info = named (codes "name") 1 ∷ named (codes "opponent") 2 ∷ named (codes "watching") 3
    ∷ named (codes "ready") 4 ∷ named (codes "away") 5 ∷ named (codes "rating") 6 ∷ named (codes "experience") 7
    ∷ named (codes "idle") 8 ∷ named (codes "login") 9 ∷ named (codes "hostname") 10 ∷ named (codes "client") 11
    ∷ named (codes "email") 12 ∷ []

-- the messages
abbrev pub rows : List NamedRow
rows =
    row 1 (codes "welcome") (named (codes "name") 1 ∷ named (codes "last_login") 2 ∷ named (codes "last_host") 3 ∷ [])
    ∷ row 2 (codes "own_info") own_info
    ∷ row 3 (codes "motd_begin") []
    ∷ row 4 (codes "motd_end") []
    ∷ row 5 (codes "who_info") who_info
    ∷ row 6 (codes "who_info_end") []
    ∷ row 7 (codes "login") a_name_and_text
    ∷ row 8 (codes "logout") a_name_and_text
    ∷ row 9 (codes "message") (named (codes "name") 1 ∷ named (codes "time") 2 ∷ named (codes "text") 3 ∷ [])
    ∷ row 10 (codes "message_delivered") a_name
    ∷ row 11 (codes "message_saved") a_name
    ∷ row 12 (codes "says") a_name_and_text
    ∷ row 13 (codes "shouts") a_name_and_text
    ∷ row 14 (codes "whispers") a_name_and_text
    ∷ row 15 (codes "kibitzes") a_name_and_text
    ∷ row 16 (codes "you_say") a_name_and_text
    ∷ row 17 (codes "you_shout") a_text
    ∷ row 18 (codes "you_whisper") a_text
    ∷ row 19 (codes "you_kibitz") a_text
    ∷ []

-- the row of a number in some rows
abbrev pub row_in : List NamedRow → ℕ → NamedRow
row_in [] n = row n [] []
row_in (r ∷ rest) n = if r.number == n then r else row_in rest n

-- the row of the message with a number
unfoldable pub row_of : ℕ → NamedRow
row_of n = row_in rows n

-- a name, a word or a tail; `-` means that there is none
abbrev pub some_bytes : List ℕ → Json
some_bytes bytes = if bytes_eq bytes (codes "-") then null else string bytes

-- the value of a field
abbrev pub field_json : FieldValue → Json
field_json (NameField bytes) = some_bytes bytes
field_json (WordField bytes) = some_bytes bytes
field_json (TailField bytes) = some_bytes bytes
field_json (FlagField flag) = truth flag
field_json (NumberField number) = whole number
field_json (RatingField rating) = hundredths rating
field_json (TextField bytes) = string bytes

-- a field as a further member, if the message has it
abbrev pub member_of : List ℕ → Option FieldValue → List Member
member_of name None = []
member_of name (Some value) = member name (field_json value) ∷ []

-- the member of one field: its name, and its value as JSON
abbrev pub field_member : List FieldValue → NamedField → List Member
field_member fields named = member_of named.name (field_at named.number fields)

-- the fields of a message, in the order of its line
abbrev pub field_members : MessageValue → List Member
field_members m = flat_map (field_member m.fields) (row_of m.number).fields

-- the members of a message: its number, its word, and its fields
abbrev pub message_members : MessageValue → List Member
message_members m =
    member (codes "number") (whole m.number)
    ∷ member (codes "message") (string (row_of m.number).word)
    ∷ field_members m

-- ---- the table of the program as values

abbrev pub field_of_column : Column → NamedField
field_of_column column = named column.name.now column.number

abbrev pub fields_of_columns : List Column → List NamedField
fields_of_columns columns = map field_of_column columns
