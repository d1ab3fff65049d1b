-- A line has one reading.
use Rattle.std.proofs.Common.{inl, inr, None, ◌≡◌, ℕ, List, sym, ap, ◌∙◌, subst, refl}
use Rattle.std.specs.Prelude.{◌↔◌}
use Rattle.fibs_fields.specs.Board.{BoardFields, BoardText}
use Rattle.fibs_messages.specs.Line.{IsBoardLine, IsMalformed, IsText, ReadingValue, numbered_line, board_line, text_line, malformed_line, IsReading}
use Rattle.fibs_messages.specs.LineReading.{IsAsRead}
use Rattle.fibs_messages.specs.Message.{number_word, MessageValue, MessageText, IsNumbered}
use Rattle.fibs_fields.specs.Split.{before}
use Rattle.fibs_messages.proofs.MessageLemmas.MessageLines.{reads_line}
use Rattle.fibs_messages.proofs.MessageLemmas.MessageReadings.{one_message, message_not_wrong, one_wrong, message_numbered, board_not_numbered, number_of, reads_wrong}
use Rattle.fibs_fields.specs.declared.fault.Fault.{Fault}
use Rattle.fibs_fields.proofs.BoardLemmas.EachLine.{one_board, one_fault, not_both}
use Rattle.fibs_fields.proofs.FieldLemmas.Options.{some_none}

-- a line that says a board is a board line
pub board_begins : (line : List ℕ) (b : BoardFields) → BoardText b line → IsBoardLine line
board_begins line b says = let P : List ℕ → Type 0 = λ l. IsBoardLine l in subst P (sym says.1.1) refl

-- a malformed line, by its parts
malformed_same : (j k : ℕ) (m n : ℕ) (f g : Fault) → j ≡ k → m ≡ n → f ≡ g → malformed_line j m f ≡ malformed_line k n g
malformed_same j k m n f g p q r i = malformed_line (p i) (q i) (r i)

-- a malformed line, whichever it is, says neither a board nor a message
malformed_no_board : (line : List ℕ) (b : BoardFields) (n k : ℕ) (f : Fault) → BoardText b line → IsMalformed line n k f
    → ⊥
malformed_no_board line b n k f says (inl wrong) = not_both line b k f says wrong.2
malformed_no_board line b n k f says (inr wrong) = board_not_numbered line (board_begins line b says) (n, wrong.0)

-- nor a message
malformed_no_message : (line : List ℕ) (m : MessageValue) (n k : ℕ) (f : Fault) → MessageText m line
    → IsMalformed line n k f → ⊥
malformed_no_message line m n k f says (inl wrong) = board_not_numbered line wrong.0 (message_numbered line m says)
malformed_no_message line m n k f says (inr wrong) = message_not_wrong line m n k f says wrong

-- nor is it text
malformed_no_text : (line : List ℕ) (n k : ℕ) (f : Fault) → IsText line → IsMalformed line n k f → ⊥
malformed_no_text line n k f text (inl wrong) = text.0 wrong.0
malformed_no_text line n k f text (inr wrong) = text.1 (n, wrong.0)

-- a malformed line is so in one way
one_malformed : (line : List ℕ) (j k m n : ℕ) (f g : Fault) → IsMalformed line j m f → IsMalformed line k n g
    → malformed_line j m f ≡ malformed_line k n g
one_malformed line j k m n f g (inl p) (inl q) =
    let same = one_fault line m n f g p.2 q.2 in
    malformed_same j k m n f g (p.1 ∙ sym q.1) same.0 same.1
one_malformed line j k m n f g (inl p) (inr q) = absurd (board_not_numbered line p.0 (k, q.0))
one_malformed line j k m n f g (inr p) (inl q) = absurd (board_not_numbered line q.0 (j, p.0))
one_malformed line j k m n f g (inr p) (inr q) =
    let same = one_wrong line j k m n f g p q in
    malformed_same j k m n f g same.number same.field same.fault

-- a line has one reading
pub reading_same : (line : List ℕ) (v w : ReadingValue) → IsReading line v → IsReading line w → v ≡ w
reading_same line (numbered_line a) (numbered_line b) g h = ap numbered_line (one_message line a b g h)
reading_same line (numbered_line a) (board_line b) g h =
    absurd (board_not_numbered line h.0 (message_numbered line a g))
reading_same line (numbered_line a) (text_line t) g h = absurd (h.0.1 (message_numbered line a g))
reading_same line (numbered_line a) (malformed_line n k f) g h = absurd (malformed_no_message line a n k f g h)
reading_same line (board_line a) (numbered_line b) g h =
    absurd (board_not_numbered line g.0 (message_numbered line b h))
reading_same line (board_line a) (board_line b) g h = ap board_line (one_board line a b g.1 h.1)
reading_same line (board_line a) (text_line t) g h = absurd (h.0.0 g.0)
reading_same line (board_line a) (malformed_line n k f) g h = absurd (malformed_no_board line a n k f g.1 h)
reading_same line (text_line t) (numbered_line b) g h = absurd (g.0.1 (message_numbered line b h))
reading_same line (text_line t) (board_line b) g h = absurd (g.0.0 h.0)
reading_same line (text_line t) (text_line u) g h = ap text_line (g.1 ∙ sym h.1)
reading_same line (text_line t) (malformed_line n k f) g h = absurd (malformed_no_text line n k f g.0 h)
reading_same line (malformed_line n k f) (numbered_line b) g h = absurd (malformed_no_message line b n k f h g)
reading_same line (malformed_line n k f) (board_line b) g h = absurd (malformed_no_board line b n k f h.1 g)
reading_same line (malformed_line n k f) (text_line t) g h = absurd (malformed_no_text line n k f h.0 g)
reading_same line (malformed_line j m f) (malformed_line k n g) p q = one_malformed line j k m n f g p q

-- what is so of a reading that is the line's
pub record ReadExactly (line : List ℕ) (v : ReadingValue) : Type 0 where
  pub only : (w : ReadingValue) → IsReading line w → v ≡ w
  pub numbered : (m : MessageValue) → (v ≡ numbered_line m) ↔ MessageText m line
  pub board : (b : BoardFields) → (v ≡ board_line b) ↔ BoardText b line
  pub malformed : (n k : ℕ) → (f : Fault) → (v ≡ malformed_line n k f) ↔ IsMalformed line n k f
  pub text : (t : List ℕ) → (v ≡ text_line t) ↔ (IsText line × (t ≡ line))

-- this holds of each reading that is the line's
pub exactly : (line : List ℕ) (v : ReadingValue) → IsReading line v → ReadExactly line v
exactly line v found =
    let P : ReadingValue → Type 0 = λ w. IsReading line w in
    record {
      only = λ w h. reading_same line v w found h;
      numbered = λ m. ((λ e. subst P e found), (λ says. reading_same line v (numbered_line m) found says));
      board =
          λ b. (
            (λ e. (subst P e found).1),
            (λ says. reading_same line v (board_line b) found (board_begins line b says, says)),
          );
      malformed = λ n k f. ((λ e. subst P e found), (λ h. reading_same line v (malformed_line n k f) found h));
      text = λ t. ((λ e. subst P e found), (λ h. reading_same line v (text_line t) found h));
    }

-- a line that begins with no number from 1 to 19 is not numbered
not_numbered : (line : List ℕ) → number_word (before 32 line) ≡ None → IsNumbered line → ⊥
not_numbered line e h = some_none h.0 (sym (number_of line h.0 h.1) ∙ e)

-- what reading a line that is no board line gives is its reading
pub is_reading : (line : List ℕ) (v : ReadingValue) → ¬ IsBoardLine line → IsAsRead line v → IsReading line v
is_reading line (numbered_line m) other h = reads_line m.number m.fields line h
is_reading line (board_line b) other h = absurd h
is_reading line (text_line t) other h = ((other, not_numbered line h.0), h.1)
is_reading line (malformed_line n k f) other h = inr (reads_wrong line n k f h)
