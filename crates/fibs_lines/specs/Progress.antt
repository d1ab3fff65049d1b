-- How the reading loop goes on. No public contract rests on this file.
use Rattle.std.specs.Prelude.{◌≡◌, ℕ, ◌+◌, ◌<◌, ◌≤◌, Bool, true, false, ◌||◌, ◌==◌, nat_lt, List, [], ◌∷◌, ◌++◌, length, take, slice_index, ◌⊎◌, if◌then◌else◌}
use Rattle.fibs_lines.specs.Lines.{kept_limit, rest_of, lines_of, takes_option}
use Rattle.fibs_lines.specs.Literal.{is_literal}
use Rattle.fibs_lines.specs.Standing.{telnet_of}
use Rattle.fibs_lines.specs.declared.telnet.Telnet.{Telnet}
use Rattle.fibs_lines.specs.declared.telnet.Telnet.TheVariants.{Data, Command, Negotiation}
use Rattle.fibs_lines.specs.declared.unfinished.Unfinished.{Unfinished}

-- how far a command has come after one more byte
abbrev pub telnet_after : Telnet → ℕ → Telnet
telnet_after Data b = if b == 255 then Command else Data
telnet_after Command b = if b == 255 then Data else if takes_option b then Negotiation else Data
telnet_after Negotiation b = Data

-- the data that one more byte gives
abbrev pub data_of : Telnet → ℕ → List ℕ
data_of Data b = if b == 255 then [] else b ∷ []
data_of Command b = if b == 255 then 255 ∷ [] else []
data_of Negotiation b = []

-- what is kept of a stream: how much of a telnet command has come, the first bytes after the last line end, and whether
-- there are more
pub record Kept : Type 0 where
  pub telnet : Telnet
  pub head : List ℕ
  pub over : Bool

-- the fields of an `Unfinished`
abbrev pub kept : Unfinished → Kept
kept u = record { telnet = u.telnet; head = u.head; over = u.over }

-- this is kept after the stream s
pub record KeptAfter (v : Kept) (s : List ℕ) : Type 0 where
  pub telnet : v.telnet ≡ telnet_of s
  pub head : v.head ≡ take (kept_limit + 1) (rest_of s)
  pub over : v.over ≡ nat_lt (kept_limit + 1) (length (rest_of s))

-- whenever old is kept, new is kept after t more, in which no line ends
pub record Advances (old new : Kept) (t : List ℕ) : Type 0 where
  pub stands : (s : List ℕ) → KeptAfter old s → KeptAfter new (s ++ t)
  pub same_lines : (s : List ℕ) → KeptAfter old s → lines_of (s ++ t) ≡ lines_of s

-- the same up to the place `at` of piece, where a line ends
pub record AdvancesToEnd (old new : Kept) (piece : List ℕ) (at : ℕ) : Type 0 where
  pub in_range : at < length piece
  pub advances : Advances old new (take at piece)
  pub no_command : new.telnet ≡ Data
  pub end : slice_index piece at ≡ 10

-- a byte that ends a run: a line end, or the first of a command
abbrev pub ends_run : ℕ → Bool
ends_run x = x == 10 || x == 255

-- no byte ends the run
abbrev pub IsRun : List ℕ → Type 0
IsRun [] = Unit {0}
IsRun (x ∷ q) = (ends_run x ≡ false) × IsRun q

-- the first n bytes are literal
pub record IsLiteralTo (bytes : List ℕ) (n : ℕ) : Type 0 where
  pub in_range : n ≤ length bytes
  pub each : (k : ℕ) → k < n → is_literal (slice_index bytes k) ≡ true

-- at this place of piece a line ends whose text is the first len bytes, by LF alone or by CR LF
pub record IsEndAfter (piece : List ℕ) (len at : ℕ) : Type 0 where
  pub in_range : at < length piece
  pub end : slice_index piece at ≡ 10
  pub follows : (at ≡ len) ⊎ ((at ≡ len + 1) × (slice_index piece len ≡ 13))
