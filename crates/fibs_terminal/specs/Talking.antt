-- Talk that goes to the server as it was typed (FIBS takes any letters; else the project's own).
use Rattle.std.specs.Prelude.{◌≡◌, ◌==◌, ◌&&◌, ℕ, Bool, true, false, not, nat_le, nat_lt, length, List, Some, if◌then◌else◌}
use Rattle.std.specs.Char.{is_control}
use Rattle.std.specs.List.{list_all, list_any}
use Rattle.std.specs.Str.{chars, is_utf8}
use Rattle.fibs_commands.specs.PlainCommands.{PlainValue, say, tell, shout, whisper, kibitz, leave_message}
use Rattle.fibs_commands.specs.declared.plain.PlainFault.TheVariants.{BadText}
use Rattle.fibs_session.specs.History.Machine.{Talk, plain_refusal}
use Rattle.fibs_session.specs.Typing.{typed_now, typed_plain}
use Rattle.fibs_session.specs.declared.histories.refusal.PlainRefusal.TheVariants.{Fault}

-- a byte of talk: no control of ASCII (ECMA-48), and not the one by which telnet begins a command (RFC 854)
abbrev pub is_said_byte : ℕ → Bool
is_said_byte byte = nat_le 32 byte && (not (byte == 127) && not (byte == 255))

-- a byte that is a control beyond ASCII, where a byte is a character (ISO 8859-1, ECMA-48)
abbrev pub is_upper_control : ℕ → Bool
is_upper_control byte = nat_le 128 byte && nat_lt byte 160

-- a character of a line is a control: as UTF-8, or, if the line is not UTF-8, as bytes that are characters
abbrev pub has_control : List ℕ → Bool
has_control line = if is_utf8 line then list_any is_control (chars line) else list_any is_upper_control line

-- talk that says something
abbrev pub is_talk : PlainValue → Bool
is_talk (say text) = nat_lt 0 (length text)
is_talk (tell name text) = nat_lt 0 (length text)
is_talk (shout text) = nat_lt 0 (length text)
is_talk (whisper text) = nat_lt 0 (length text)
is_talk (kibitz text) = nat_lt 0 (length text)
is_talk (leave_message name text) = nat_lt 0 (length text)
is_talk plain = false

-- the client refuses it for the bytes of its text, and for nothing before these
abbrev pub refuses_letters : Talk → PlainValue → Type 0
refuses_letters t plain = plain_refusal t plain ≡ Some (Fault BadText)

-- the line is such talk
pub record IsRefusedTalk (t : Talk) (line : List ℕ) : Type 0 where
  pub plain : PlainValue
  pub is_typed : typed_now t line ≡ typed_plain plain
  pub talks : is_talk plain ≡ true
  pub refused : refuses_letters t plain

-- it goes as it was typed: no byte of it is a control
pub record GoesAsTyped (t : Talk) (line : List ℕ) : Type 0 where
  pub talk : IsRefusedTalk t line
  pub clean : list_all is_said_byte line ≡ true
  pub controls : has_control line ≡ false
