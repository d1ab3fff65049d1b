-- The lines of a byte stream: telnet commands (RFC 854), line ends, the limit and the prompts. Each definition cuts a
-- whole list.
use Rattle.std.specs.Prelude.{ℕ, zero, suc, Bool, ◌&&◌, ◌==◌, nat_le, nat_lt, nat_eq, List, [], ◌∷◌, length, take, drop, map, codes, count_by, if◌then◌else◌, Option, None, Some}
use Rattle.std.specs.List.{starts_with, slice_split, after_last}
use Rattle.std.specs.Str.Lines.{strip_carriage_return}
use Rattle.fibs_lines.specs.declared.line.Line.{Line}

-- how many bytes of a line are kept
abbrev pub kept_limit : ℕ
kept_limit = 16384

-- whether the telnet command c takes the byte after it along: 251 to 254 are WILL, WON'T, DO and DON'T (RFC 854)
abbrev pub takes_option : ℕ → Bool
takes_option c = nat_le 251 c && nat_le c 254

-- the stream without its telnet commands, which begin with the byte 255 (RFC 854, IAC): 255 255 is the byte 255, 255
-- and 251 to 254 go with the byte after them, and 255 goes with any other byte after it. A command that the end leaves
-- unfinished gives nothing
unfoldable pub plain : List ℕ → List ℕ
plain [] = []
plain (b ∷ []) = if b == 255 then [] else b ∷ []
plain (b ∷ c ∷ []) =
    if b == 255 then (if c == 255 then 255 ∷ [] else [])
    else b ∷ plain (c ∷ [])
plain (b ∷ c ∷ d ∷ s) =
    if b == 255 then (if c == 255 then 255 ∷ plain (d ∷ s) else if takes_option c then plain s else plain (d ∷ s))
    else b ∷ plain (c ∷ d ∷ s)

-- whether a byte is LF, which ends a line
abbrev pub is_line_end : ℕ → Bool
is_line_end b = b == 10

-- the parts between the line ends, without the last, which no line end closes: there are as many as line ends
abbrev pub finished_parts : List ℕ → List (List ℕ)
finished_parts p = take (count_by is_line_end p) (slice_split is_line_end p)

-- the prompt of a server that waits for a login
abbrev pub login_prompt : List ℕ
login_prompt = codes "login: "

-- the prompt of a server that waits for a command
abbrev pub command_prompt : List ℕ
command_prompt = codes "> "

-- the line without at most n prompts at its start
unfoldable pub without_some_prompts : ℕ → List ℕ → List ℕ
without_some_prompts zero l = l
without_some_prompts (suc n) l =
    if starts_with nat_eq l login_prompt then without_some_prompts n (drop 7 l)
    else if starts_with nat_eq l command_prompt then without_some_prompts n (drop 2 l)
    else l

-- the line without the prompts at its start: there are at most as many as it has bytes
abbrev pub without_prompts : List ℕ → List ℕ
without_prompts l = without_some_prompts (length l) l

-- a line that was read: its kept bytes, and whether it had more
pub record ReadLine : Type 0 where
  pub bytes : List ℕ
  pub cut : Bool

-- the line of a finished part: first one CR at the end is removed, then what is past the limit, then the prompts at the
-- start
unfoldable pub line_of : List ℕ → ReadLine
line_of part =
    let line = strip_carriage_return part in
    record { bytes = without_prompts (take kept_limit line); cut = nat_lt kept_limit (length line) }

-- the lines of a stream
unfoldable pub lines_of : List ℕ → List ReadLine
lines_of s = map line_of (finished_parts (plain s))

-- what follows the last line end of a stream
unfoldable pub rest_of : List ℕ → List ℕ
rest_of s = after_last is_line_end (plain s)

-- ---- the lines of the program as values

-- its bytes, and whether it had more
abbrev pub value_of : Line → ReadLine
value_of line = record { bytes = line.bytes.now; cut = line.cut }

-- the same for a line that may be there
abbrev pub line_value : Option Line → Option ReadLine
line_value None = None
line_value (Some line) = Some (value_of line)
