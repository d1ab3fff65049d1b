-- Laws of the definitions: the contracts of the functions in `laws`.
use Rattle.std.specs.Prelude.{◌≡◌, ℕ, ◌+◌, ◌≤◌, ◌⊎◌, ◌≢◌, false, nat_eq, List, [], ◌∷◌, ◌++◌, length, count_by, All}
use Rattle.std.specs.List.{starts_with, slice_split, concat}
use Rattle.fibs_lines.specs.Lines.{kept_limit, plain, is_line_end, finished_parts, login_prompt, command_prompt, without_prompts, ReadLine, lines_of, rest_of}
use Rattle.fibs_lines.specs.Standing.{AtLineStart}

-- the parts between the line ends are the finished ones, and then the rest
abbrev pub PartsAreLinesAndRest : Type 0
PartsAreLinesAndRest = (s : List ℕ) → slice_split is_line_end (plain s) ≡ finished_parts (plain s) ++ rest_of s ∷ []

-- the empty stream has no line, and is at a line's start
abbrev pub EmptyStreamHasNoLine : Type 0
EmptyStreamHasNoLine = (lines_of [] ≡ []) × AtLineStart []

-- what comes later takes no line back and changes none
abbrev pub LinesOnlyGrow : Type 0
LinesOnlyGrow = (s t : List ℕ) → (more : List ReadLine) × (lines_of (s ++ t) ≡ lines_of s ++ more)

-- a piece gives at most as many lines as it has bytes LF: no telnet command that is open before it turns another byte
-- into a line end
abbrev pub LinesAreAtMostTheLineEnds : Type 0
LinesAreAtMostTheLineEnds = (s t : List ℕ) → length (lines_of (s ++ t)) ≤ length (lines_of s) + count_by is_line_end t

-- a text as it is sent: with CR LF
abbrev pub with_line_end : List ℕ → List ℕ
with_line_end text = text ++ 13 ∷ 10 ∷ []

-- after CR LF a stream is at a line's start, whatever came before: whether CR is a byte of the line or the last
-- byte of a telnet command, the LF after it is neither
abbrev pub LineEndIsALineStart : Type 0
LineEndIsALineStart = (t : List ℕ) → AtLineStart (with_line_end t)

-- for the same reason CR LF ends just one line, whatever came before
abbrev pub LineEndEndsALine : Type 0
LineEndEndsALine = (t : List ℕ) → (line : ReadLine) × (lines_of (with_line_end t) ≡ lines_of t ++ line ∷ [])

-- what follows a line's start is read as if it were alone
pub record ReadsAlone (s t : List ℕ) : Type 0 where
  pub lines : lines_of (s ++ t) ≡ lines_of s ++ lines_of t
  pub rest : rest_of (s ++ t) ≡ rest_of t
  pub start : AtLineStart t → AtLineStart (s ++ t)

-- this holds at every line's start
abbrev pub LineStartReadsAlone : Type 0
LineStartReadsAlone = (s t : List ℕ) → AtLineStart s → ReadsAlone s t

-- what follows CR LF reads alone: the lines of `t CR LF s` are those of `t CR LF` and then those of s, for every t
abbrev pub WhatFollowsALineEndReadsAlone : Type 0
WhatFollowsALineEndReadsAlone = (t s : List ℕ) → ReadsAlone (with_line_end t) s

-- a text in which no line ends and no telnet command begins
abbrev pub IsUnbroken : List ℕ → Type 0
IsUnbroken text = All (λ b. (b ≢ 10) × (b ≢ 255)) text

-- no line is longer than the limit
abbrev pub LinesFit : Type 0
LinesFit = (s : List ℕ) → All (λ l. length l.bytes ≤ kept_limit) (lines_of s)

-- a text that a reader gets as it was sent: it fits, begins with no prompt, and has no LF and no 255. It may end in CR,
-- since only the CR that is sent after it is removed
pub record IsSendable (text : List ℕ) : Type 0 where
  pub fits : length text ≤ kept_limit
  pub no_line_end : All (λ b. b ≢ 10) text
  pub no_command : All (λ b. b ≢ 255) text
  pub no_login_prompt : starts_with nat_eq text login_prompt ≡ false
  pub no_command_prompt : starts_with nat_eq text command_prompt ≡ false

-- sent at a line's start, it is one uncut line that equals it
abbrev pub SendableTextIsItsLine : Type 0
SendableTextIsItsLine =
    (s text : List ℕ) → AtLineStart s → IsSendable text
    → lines_of (s ++ with_line_end text) ≡ lines_of s ++ (record { bytes = text; cut = false }) ∷ []

-- the line is some prompts in a row, and then a rest that begins with none
pub record PromptsThen (line rest : List ℕ) : Type 0 where
  pub prompts : List (List ℕ)
  pub each : All (λ p. (p ≡ login_prompt) ⊎ (p ≡ command_prompt)) prompts
  pub joined : line ≡ concat prompts ++ rest
  pub no_login_prompt : starts_with nat_eq rest login_prompt ≡ false
  pub no_command_prompt : starts_with nat_eq rest command_prompt ≡ false

-- the prompts are removed, all of them and nothing else
abbrev pub PromptsAreRemoved : Type 0
PromptsAreRemoved =
    ((line : List ℕ) → PromptsThen line (without_prompts line))
    × ((line rest : List ℕ) → PromptsThen line rest → rest ≡ without_prompts line)
