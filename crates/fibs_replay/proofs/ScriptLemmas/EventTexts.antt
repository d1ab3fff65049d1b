-- The parts of a line that says an event: numbers and boards.
use Rattle.std.proofs.Common.{◌≡◌, ◌≢◌, ◌↔◌, ℕ, zero, suc, ◌^◌, ◌<◌, ◌≤◌, ◌+◌, ◌==◌, true, List, [], ◌∷◌, ◌++◌, replicate, codes, decimal, map, Option, Some, None, Result, Ok, Err, IfOk, IfSome, option_map, refl, ap, sym, subst, arith}
use Rattle.std.specs.List.{starts_with}
use Rattle.std.proofs.lemmas.Bool.{and_parts}
use Rattle.std.proofs.lemmas.Fmt.{decimal_digit, decimal-digits_of}
use Rattle.std.proofs.lemmas.List.Elements.{All-nil, All-cons}
use Rattle.fibs_fields.specs.Board.{BoardFields, BoardText, IsBoard, spelling}
use Rattle.fibs_fields.specs.Decimal.{decimal_up_to}
use Rattle.std.specs.Option.{IfNone}
use Rattle.std.specs.Result.{result_ok}
use Rattle.fibs_fields.specs.StoredBoard.{fields_of, read_fields}
use Rattle.fibs_fields.specs.declared.boards.board.Board.{Board}
use Rattle.fibs_fields.specs.declared.fault.FieldFault.{FieldFault}
use Rattle.fibs_messages.specs.Line.{ReadingValue, numbered_line, board_line, text_line, malformed_line, IsReading, IsBoardLine, ReadingIsExact, reading_value}
use Rattle.fibs_replay.specs.EventReading.{said_board, board_in}
use Rattle.fibs_replay.specs.Scripts.{IsNoBoard}
use Rattle.fibs_commands.proofs.SplitLemmas.{Without}

-- a text is read as a number exactly if it is written so
abbrev pub DecimalsAreExact : Type 0
DecimalsAreExact =
    (limit n : ℕ) (text : List ℕ) → limit < 2 ^ 64 → (decimal_up_to limit text ≡ Some n) ↔
    ((text ≡ decimal n) × (n ≤ limit))

-- digits are no spaces
digits_apart : (ds : List ℕ) → Without 32 (map (λ d. 48 + d) ds)
digits_apart [] = All-nil (λ b. b ≢ 32)
digits_apart (d ∷ ds) = All-cons (λ b. b ≢ 32) (48 + d) (map (λ d. 48 + d) ds) (λ e. absurd (omega arith))
    (digits_apart ds)

-- a number is written without a space
pub number_apart : (n : ℕ) → n < 2 ^ 64 → Without 32 (decimal n)
number_apart zero h = subst (Without 32) (sym (decimal_digit 0 (omega arith))) (digits_apart (0 ∷ []))
number_apart (suc n) h = subst (Without 32) (sym (decimal-digits_of (suc n) (omega arith) h)) (digits_apart _)

-- the front of a text is that of a longer one
front_stays : (needle xs ys : List ℕ) → starts_with (λ a b. a == b) xs needle ≡ true
    → starts_with (λ a b. a == b) (xs ++ ys) needle ≡ true
front_stays [] xs ys h = refl
front_stays (n ∷ needle) [] ys h = absurd cc
front_stays (n ∷ needle) (x ∷ xs) ys h =
    let parts = and_parts (n == x) (starts_with (λ a b. a == b) xs needle) h in
    rw parts.0 (front_stays needle xs ys parts.1)

-- what is printed of a board begins with `board:`
abbrev pub SpellingsBegin : Type 0
SpellingsBegin = (b : BoardFields) → IsBoard b → IsBoardLine (spelling b)

-- a line has one reading
abbrev pub OneReading : Type 0
OneReading = (line : List ℕ) (v w : ReadingValue) → IsReading line v → IsReading line w → v ≡ w

-- a line that says a board is a board line
board_begins : SpellingsBegin → (b : BoardFields) (line : List ℕ) → BoardText b line → IsBoardLine line
board_begins begins b line h =
    subst IsBoardLine (sym h.1.1) (front_stays (codes "board:") (spelling b) (replicate h.1.0 32) (begins b h.0))

-- a reading that says a board
said : (line : List ℕ) (v : ReadingValue) (b : BoardFields) → IsReading line v → said_board v ≡ Some b
    → BoardText b line
said line (numbered_line m) b h e = absurd cc
said line (board_line c) b h e = let same : c ≡ b = cc in subst (λ x. BoardText x line) same h.1
said line (text_line t) b h e = absurd cc
said line (malformed_line n k f) b h e = absurd cc

-- the board that is found in a line is the one that it says, and none if it says none
abbrev pub BoardsAreExact : Type 0
BoardsAreExact = (line : List ℕ) (b : BoardFields) → (board_in line ≡ Some b) ↔ BoardText b line

-- the board of a line is the one that it says
pub boards_are_exact : ReadingIsExact → OneReading → SpellingsBegin → BoardsAreExact
unfolding board_in
boards_are_exact exact one begins line b = (
  said line (reading_value line) b (exact line),
  λ h. ap said_board (one line (reading_value line) (board_line b) (exact line) (board_begins begins b line h, h)),
)

-- what is read of a line is its board
pub board_is_read : BoardsAreExact → (line : List ℕ) (r : Result Board FieldFault)
    → IfOk (read_fields r) (λ b. BoardText b line)
    → ((b : BoardFields) → BoardText b line → read_fields r ≡ Ok b) → option_map fields_of (result_ok r) ≡ board_in line
board_is_read exact line (Ok board) found only = sym ((exact line (fields_of board)).1 found)
board_is_read exact line (Err e) found only = none (board_in line) refl
  where
    none : (o : Option BoardFields) → board_in line ≡ o → None ≡ board_in line
    none None h = sym h
    none (Some b) h = let wrong = only b ((exact line b).0 h) in absurd cc

-- it is said by the line
pub board_is_said : (line : List ℕ) (r : Result Board FieldFault) (o : Option Board) → o ≡ result_ok r
    → IfOk (read_fields r) (λ b. BoardText b line)
    → IfSome o (λ board. BoardText (fields_of board) line)
board_is_said line (Ok board) o e found = subst (λ o. IfSome o (λ board. BoardText (fields_of board) line)) (sym e)
    found
board_is_said line (Err fault) o e found = subst (λ o. IfSome o (λ board. BoardText (fields_of board) line)) (sym e) tt

-- and if there is no event, the line says none
pub board_is_none : (line : List ℕ) (r : Result Board FieldFault) (o : Option Board) → o ≡ result_ok r
    → ((b : BoardFields) → BoardText b line → read_fields r ≡ Ok b) → IfNone o (IsNoBoard line)
board_is_none line (Ok board) o e only = subst (λ o. IfNone o (IsNoBoard line)) (sym e) tt
board_is_none line (Err fault) o e only = subst (λ o. IfNone o (IsNoBoard line)) (sym e)
    (λ b h. let wrong = only b h in absurd cc)
