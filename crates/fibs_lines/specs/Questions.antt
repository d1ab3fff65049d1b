-- What a server's bytes say of the login (the project's own; that message 1 greets the user CLIP 1008): it has no other
-- words for a refusal than its question, once more.
use Rattle.std.specs.Prelude.{◌≡◌, ◌==◌, ◌&&◌, ◌||◌, ℕ, Bool, false, not, nat_eq, List, [], ◌++◌, codes, filter, take}
use Rattle.std.specs.List.{after_last, list_any, starts_with}
use Rattle.std.specs.Str.{bytes_eq}
use Rattle.fibs_lines.specs.Lines.{finished_parts, is_line_end, login_prompt}
use Rattle.fibs_lines.specs.declared.questions.Questions.{Questions}

-- the bytes of a connection without CR, which is no part of a line
abbrev pub without_returns : List ℕ → List ℕ
without_returns s = filter (λ b. not (b == 13)) s

-- its lines that an LF has ended
abbrev pub whole_lines : List ℕ → List (List ℕ)
whole_lines s = finished_parts (without_returns s)

-- its line that has not ended
abbrev pub open_line : List ℕ → List ℕ
open_line s = after_last is_line_end (without_returns s)

-- a line is the question for the login, and nothing else
abbrev pub is_question : List ℕ → Bool
is_question line = bytes_eq line login_prompt

-- a line greets the user: it is message 1, behind the question or not
abbrev pub greets : List ℕ → Bool
greets line = starts_with nat_eq line (codes "1 ") || starts_with nat_eq line (codes "login: 1 ")

-- the server asks once more: a line was the question, none has greeted, and the one that has not ended is the question
abbrev pub asks_again : List ℕ → Bool
asks_again s =
    list_any is_question (whole_lines s) && (not (list_any greets (whole_lines s)) && is_question (open_line s))

-- these bytes of a connection have come. Of the line that has not ended nine are kept, which say whether it asks or
-- greets
pub record HasCome (q : Questions) (s : List ℕ) : Type 0 where
  pub asked : q.has_asked ≡ list_any is_question (whole_lines s)
  pub greeted : q.is_greeted ≡ list_any greets (whole_lines s)
  pub begun : q.line.items ≡ take 9 (open_line s)

-- bytes come, after whatever had come before
abbrev pub MoreComes : Questions → Questions → List ℕ → Type 0
MoreComes old new bytes = (s : List ℕ) → HasCome old s → HasCome new (s ++ bytes)

-- the answer says whether the server asks once more, after whatever has come
abbrev pub IsAskedAgain : Questions → Bool → Type 0
IsAskedAgain q answer = (s : List ℕ) → HasCome q s → answer ≡ asks_again s

-- nothing was sent on a connection
abbrev pub nothing_came : Questions
nothing_came = record { line = record { items = [] }; has_asked = false; is_greeted = false }
