-- What the code keeps of a login, byte by byte. Only private functions and proofs use this file: no public clause rests
-- on it.
use Rattle.std.specs.Prelude.{◌==◌, ◌&&◌, ◌||◌, ℕ, Bool, not, nat_lt, List, [], ◌∷◌, ◌++◌, length, fold, if◌then◌else◌}
use Rattle.fibs_lines.specs.Questions.{greets, is_question}
use Rattle.fibs_lines.specs.declared.questions.Questions.{Questions}

-- the first bytes of a line, of which nine say whether it asks or greets, after one more
abbrev pub line_after : List ℕ → ℕ → List ℕ
line_after line byte = if nat_lt (length line) 9 then line ++ (byte ∷ []) else line

-- a line has ended: it has asked, or greeted, or neither
abbrev pub after_line : Questions → Questions
after_line q = record {
  line = record { items = [] };
  has_asked = q.has_asked || is_question q.line.items;
  is_greeted = q.is_greeted || greets q.line.items;
}

-- the line goes on
abbrev pub with_byte : Questions → ℕ → Questions
with_byte q byte = record {
  line = record { items = line_after q.line.items byte };
  has_asked = q.has_asked;
  is_greeted = q.is_greeted;
}

-- one more byte: LF ends the line, and CR is no part of it
abbrev pub after_byte : Questions → ℕ → Questions
after_byte q byte = if byte == 10 then after_line q else if byte == 13 then q else with_byte q byte

-- the same of bytes
abbrev pub after_bytes : Questions → List ℕ → Questions
after_bytes q bytes = fold after_byte q bytes

-- the server asks once more, by what is kept
abbrev pub asks_now : Questions → Bool
asks_now q = q.has_asked && (not q.is_greeted && is_question q.line.items)
