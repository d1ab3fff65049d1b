-- Messages 1 to 19 (FIBS CLIP specification 1008) and their lines.
use Rattle.std.specs.Prelude.{◌≡◌, ℕ, ◌≤◌, ◌+◌, ◌-◌, Bool, false, nat_le, ◌&&◌, ◌||◌, ◌==◌, List, [], ◌∷◌, ◌++◌, Option, Some, None, decimal, map, replicate, if◌then◌else◌}
use Rattle.std.specs.Int.{is_in_range}
use Rattle.std.specs.List.{flat_map, AllByRecursion}
use Rattle.fibs_fields.specs.declared.fault.Fault.{Fault}
use Rattle.fibs_fields.specs.Spaces.{without_spaces}
use Rattle.fibs_fields.specs.Field.{Kind, a_name, a_word, a_tail, a_flag, a_number, a_rating, a_text, FieldValue, NameField, WordField, TailField, FlagField, NumberField, RatingField, TextField, kind_of, IsValue, Spells, canonical_text, texts_for, fault_at, IsFirstFault}
use Rattle.fibs_fields.specs.Split.{before, after}
use Rattle.fibs_messages.specs.declared.message.Message.{Message}
use Rattle.fibs_messages.specs.declared.message.Message.TheVariants.{Welcome, OwnInfo as TheOwnInfo, MotdBegin, MotdEnd, WhoInfo as TheWhoInfo, WhoInfoEnd, Login, Logout, MessageReceived, MessageDelivered, MessageSaved, Says, Shouts, Whispers, Kibitzes, YouSay, YouShout, YouWhisper, YouKibitz}
use Rattle.fibs_messages.specs.declared.message.OwnInfo.{OwnInfo}
use Rattle.fibs_messages.specs.declared.message.WhoInfo.{WhoInfo}
use Rattle.fibs_fields.specs.Bytes.{name_bytes, word_bytes, tail_bytes}

-- a row of the table: a message's number, and the kinds of its fields in their order
pub record Row : Type 0 where
  pub number : ℕ
  pub kinds : List Kind

-- a row, by its parts
abbrev pub row : ℕ → List Kind → Row
row n ks = record { number = n; kinds = ks }

-- the messages
unfoldable pub table : List Row
table =
    -- welcome: name, last login in seconds since 1970, last host
    row 1 (a_name ∷ a_number ∷ a_word ∷ [])
    -- own info: name;
    -- allowpip, autoboard, autodouble, automove, away, bell, crawford, double; experience;
    -- greedy, moreboards, moves, notify; rating; ratings, ready; redoubles;
    -- report, silent; timezone
    ∷ row 2 (a_name
    ∷ a_flag ∷ a_flag ∷ a_flag ∷ a_flag ∷ a_flag ∷ a_flag ∷ a_flag ∷ a_flag ∷ a_number
    ∷ a_flag ∷ a_flag ∷ a_flag ∷ a_flag ∷ a_rating ∷ a_flag ∷ a_flag ∷ a_word
    ∷ a_flag ∷ a_flag ∷ a_word ∷ [])
    -- the message of the day begins, and ends
    ∷ row 3 []
    ∷ row 4 []
    -- who info: name, opponent, watching; ready, away; rating; experience, idle, login; hostname, client; email
    ∷ row 5 (a_name ∷ a_name ∷ a_name ∷ a_flag ∷ a_flag ∷ a_rating
    ∷ a_number ∷ a_number ∷ a_number ∷ a_word ∷ a_word ∷ a_tail ∷ [])
    -- end of who info
    ∷ row 6 []
    -- login, logout: name, text
    ∷ row 7 (a_name ∷ a_text ∷ [])
    ∷ row 8 (a_name ∷ a_text ∷ [])
    -- message: sender, time in seconds since 1970, text
    ∷ row 9 (a_name ∷ a_number ∷ a_text ∷ [])
    -- message delivered, message saved: name
    ∷ row 10 (a_name ∷ [])
    ∷ row 11 (a_name ∷ [])
    -- says, shouts, whispers, kibitzes: name, text
    ∷ row 12 (a_name ∷ a_text ∷ [])
    ∷ row 13 (a_name ∷ a_text ∷ [])
    ∷ row 14 (a_name ∷ a_text ∷ [])
    ∷ row 15 (a_name ∷ a_text ∷ [])
    -- you say: name, text
    ∷ row 16 (a_name ∷ a_text ∷ [])
    -- you shout, you whisper, you kibitz: text
    ∷ row 17 (a_text ∷ [])
    ∷ row 18 (a_text ∷ [])
    ∷ row 19 (a_text ∷ [])
    ∷ []

-- a number of the table
abbrev pub IsNumber : ℕ → Type 0
IsNumber n = (1 ≤ n) × (n ≤ 19)

-- the kinds of the fields of a number in some rows
abbrev pub kinds_in : List Row → ℕ → List Kind
kinds_in [] n = []
kinds_in (r ∷ rows) n = if r.number == n then r.kinds else kinds_in rows n

-- the kinds of the fields of the message with a number
abbrev pub kinds_of : ℕ → List Kind
kinds_of n = kinds_in table n

-- the messages whose trailing spaces are dropped: those that do not end in a text
abbrev pub drops_spaces : ℕ → Bool
drops_spaces n = nat_le n 6 || n == 10 || n == 11

-- a message: its number, and the values of its fields
pub record MessageValue : Type 0 where
  pub number : ℕ
  pub fields : List FieldValue

-- a field in a line: a space and a spelling; an empty text has its space or not
pub data FieldText : FieldValue → List ℕ → Type 0 where
  spelled : {v : FieldValue} {text : List ℕ} → Spells v text → FieldText v (32 ∷ text)
  no_text : FieldText (TextField []) []

-- fields in a line, one after another
pub data FieldsText : List FieldValue → List ℕ → Type 0 where
  no_fields : FieldsText [] []
  more_fields : {v : FieldValue} {vs : List FieldValue} {text texts : List ℕ} →
      FieldText v text → FieldsText vs texts → FieldsText (v ∷ vs) (text ++ texts)

-- the line says this message: its number, its fields as the table has them, and spaces if they are dropped
pub record MessageText (m : MessageValue) (line : List ℕ) : Type 0 where
  pub number : IsNumber m.number
  pub kinds : map kind_of m.fields ≡ kinds_of m.number
  pub text : List ℕ
  pub fields : FieldsText m.fields text
  pub spaces : ℕ
  pub no_spaces : drops_spaces m.number ≡ false → spaces ≡ 0
  pub line_is : line ≡ decimal m.number ++ (text ++ replicate spaces 32)

-- the line begins with this number, and then has a space or ends
abbrev pub HasNumber : List ℕ → ℕ → Type 0
HasNumber line n = IsNumber n × (before 32 line ≡ decimal n)

-- the number from 1 to 19 that a word is
abbrev pub number_word : List ℕ → Option ℕ
number_word [] = None
number_word (d ∷ []) = if is_in_range 49 57 d then Some (d - 48) else None
number_word (d ∷ e ∷ []) = if d == 49 && is_in_range 48 57 e then Some (10 + (e - 48)) else None
number_word (d ∷ e ∷ f ∷ s) = None

-- the line begins with a number of the table
abbrev pub IsNumbered : List ℕ → Type 0
IsNumbered line = (n : ℕ) × HasNumber line n

-- a line without the spaces that are dropped
abbrev pub kept : ℕ → List ℕ → List ℕ
kept n line = if drops_spaces n then without_spaces line else line

-- the line has this number, and field k is the first that is wrong
abbrev pub WrongMessage : List ℕ → ℕ → ℕ → Fault → Type 0
WrongMessage line n k f = HasNumber line n
    × IsFirstFault (fault_at (kinds_of n) (texts_for (kinds_of n) 32 (after 32 (kept n line)))) k f

-- a text and a space before it, if it is not empty
abbrev pub space_before : List ℕ → List ℕ
space_before [] = []
space_before (b ∷ s) = 32 ∷ b ∷ s

-- a field as it is printed: a space and the text; an empty text is nothing
unfoldable pub canonical_field : FieldValue → List ℕ
canonical_field (TextField s) = space_before s
canonical_field v = 32 ∷ canonical_text v

-- the one line that is printed
abbrev pub canonical : MessageValue → List ℕ
canonical m = decimal m.number ++ flat_map canonical_field m.fields

-- a message that is well formed: it has a number of the table, fields of the kinds of that row, and values of these
-- kinds
pub record IsMessage (m : MessageValue) : Type 0 where
  pub number : IsNumber m.number
  pub kinds : map kind_of m.fields ≡ kinds_of m.number
  pub values : AllByRecursion IsValue m.fields

-- ---- the messages of the program as values

-- a message, by its parts
abbrev pub message : ℕ → List FieldValue → MessageValue
message n fields = record { number = n; fields = fields }

-- the fields of message 2
abbrev pub own_info_fields : OwnInfo → List FieldValue
own_info_fields i = NameField (name_bytes i.name)
    ∷ FlagField i.allowpip ∷ FlagField i.autoboard ∷ FlagField i.autodouble ∷ FlagField i.automove
    ∷ FlagField i.away ∷ FlagField i.bell ∷ FlagField i.crawford ∷ FlagField i.double
    ∷ NumberField i.experience
    ∷ FlagField i.greedy ∷ FlagField i.moreboards ∷ FlagField i.moves ∷ FlagField i.notify
    ∷ RatingField i.rating ∷ FlagField i.ratings ∷ FlagField i.ready
    ∷ WordField (word_bytes i.redoubles) ∷ FlagField i.report ∷ FlagField i.silent
    ∷ WordField (word_bytes i.timezone) ∷ []

-- the fields of message 5
abbrev pub who_info_fields : WhoInfo → List FieldValue
who_info_fields w = NameField (name_bytes w.name)
    ∷ NameField (name_bytes w.opponent) ∷ NameField (name_bytes w.watching)
    ∷ FlagField w.ready ∷ FlagField w.away ∷ RatingField w.rating
    ∷ NumberField w.experience ∷ NumberField w.idle ∷ NumberField w.login
    ∷ WordField (word_bytes w.hostname) ∷ WordField (word_bytes w.client)
    ∷ TailField (tail_bytes w.email) ∷ []

-- the number and the fields of a message
abbrev pub message_of : Message → MessageValue
message_of (Welcome name last_login last_host) =
    message 1 (NameField (name_bytes name) ∷ NumberField last_login ∷ WordField (word_bytes last_host) ∷ [])
message_of (TheOwnInfo info) = message 2 (own_info_fields info)
message_of MotdBegin = message 3 []
message_of MotdEnd = message 4 []
message_of (TheWhoInfo info) = message 5 (who_info_fields info)
message_of WhoInfoEnd = message 6 []
message_of (Login name text) = message 7 (NameField (name_bytes name) ∷ TextField text.now ∷ [])
message_of (Logout name text) = message 8 (NameField (name_bytes name) ∷ TextField text.now ∷ [])
message_of (MessageReceived sender time text) =
    message 9 (NameField (name_bytes sender) ∷ NumberField time ∷ TextField text.now ∷ [])
message_of (MessageDelivered name) = message 10 (NameField (name_bytes name) ∷ [])
message_of (MessageSaved name) = message 11 (NameField (name_bytes name) ∷ [])
message_of (Says name text) = message 12 (NameField (name_bytes name) ∷ TextField text.now ∷ [])
message_of (Shouts name text) = message 13 (NameField (name_bytes name) ∷ TextField text.now ∷ [])
message_of (Whispers name text) = message 14 (NameField (name_bytes name) ∷ TextField text.now ∷ [])
message_of (Kibitzes name text) = message 15 (NameField (name_bytes name) ∷ TextField text.now ∷ [])
message_of (YouSay name text) = message 16 (NameField (name_bytes name) ∷ TextField text.now ∷ [])
message_of (YouShout text) = message 17 (TextField text.now ∷ [])
message_of (YouWhisper text) = message 18 (TextField text.now ∷ [])
message_of (YouKibitz text) = message 19 (TextField text.now ∷ [])
