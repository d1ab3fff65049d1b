-- What `feed` answers, from what is kept.
use Rattle.std.proofs.Common.{◌≡◌, ℕ, zero, suc, ◌+◌, min, Bool, true, false, List, [], ◌∷◌, ◌++◌, length, take, None, Some, true≢false, refl, sym, ap, subst, ◌∙◌, arith, append_assoc}
use Rattle.std.specs.Prelude.{nat_lt}
use Rattle.std.proofs.lemmas.List.{take_more, take_all, append-nil, length-take}
use Rattle.fibs_lines.specs.Lines.{plain, lines_of, rest_of, line_of, kept_limit, value_of}
use Rattle.fibs_lines.specs.Standing.{telnet_of, AtLineStart}
use Rattle.fibs_lines.specs.Progress.{Kept, KeptAfter, Advances, AdvancesToEnd}
use Rattle.fibs_lines.specs.LinesValue.{LinesValue, StandsAfter, kept_line, lines_value}
use Rattle.fibs_lines.specs.declared.unfinished.Unfinished.{Unfinished}
use Rattle.fibs_lines.specs.Feeding.{Feeds}
use Rattle.fibs_lines.specs.declared.line.Line.{Line}
use Rattle.fibs_lines.specs.declared.telnet.Telnet.TheVariants.{Data}
use Rattle.fibs_lines.proofs.Streams.{data_along, telnet_along, plain-append, telnet_of-append, lines_of_end, rest_of_end, lines_of_before}
use Rattle.fibs_lines.proofs.ReturnLemmas.{kept_line_is}

-- the value of a `Lines`, but for the line
abbrev pub kept_of : LinesValue → Kept
kept_of v = record { telnet = v.telnet; head = v.head; over = v.over }

-- what is kept after a stream is reached by it
pub StandsAfter-from_kept : (v : LinesValue) (s : List ℕ) → KeptAfter (kept_of v) s → StandsAfter v s
unfolding StandsAfter
StandsAfter-from_kept v s h = (h.telnet, h.head, h.over)

-- what is after a stream is kept after it
pub KeptAfter-from_stands : (v : LinesValue) (s : List ℕ) → StandsAfter v s → KeptAfter (kept_of v) s
unfolding StandsAfter
KeptAfter-from_stands v s h = record { telnet = h.0; head = h.1; over = h.2 }

-- nothing has come
pub KeptAfter_none : (v : Kept) → v ≡ record { telnet = Data; head = []; over = false } → KeptAfter v []
unfolding telnet_of rest_of plain
KeptAfter_none v e = subst (λ k. KeptAfter k []) (sym e) (record { telnet = refl; head = refl; over = refl })

-- the whole piece was taken
pub Feeds_whole : (old new : Kept) (s piece : List ℕ) → Advances old new piece → KeptAfter old s
    → Feeds s piece (record { used = length piece; line = None })
Feeds_whole old new s piece a h =
    let all : take (length piece) piece ≡ piece = take_all (length piece) piece (omega arith) in
    let same : lines_of (s ++ take (length piece) piece) ≡ lines_of s =
    ap (λ l. lines_of (s ++ l)) all ∙ a.same_lines s h in
    record {
      in_range = omega arith;
      gains = same ∙ sym (append-nil (lines_of s));
      shortest = λ n l. lines_of_before s piece n (length piece) (omega arith) same;
      whole = λ _. refl;
      starts = λ some. absurd (cc);
    }

module _ (old new : Kept) (s piece : List ℕ) (at : ℕ) (a : AdvancesToEnd old new piece at) (h : KeptAfter old s) where
  -- what is kept there
  stood : KeptAfter new (s ++ take at piece)
  stood = a.advances.stands s h

  -- the stream with the line end
  split : s ++ take (at + 1) piece ≡ s ++ take at piece ++ 10 ∷ []
  split = ap (λ l. s ++ l) (take_more piece at 0 a.in_range ∙ ap (λ b. take at piece ++ b ∷ []) a.end)
      ∙ sym (append_assoc s (take at piece) (10 ∷ []))

  -- its data: the line end is one
  gives : plain (s ++ take at piece ++ 10 ∷ []) ≡ plain (s ++ take at piece) ++ 10 ∷ []
  gives = plain-append (s ++ take at piece) (10 ∷ [])
      ∙ ap (λ k. plain (s ++ take at piece) ++ data_along k (10 ∷ [])) (sym stood.telnet ∙ a.no_command)

  -- what follows the line end is a line's start
  starts_line : AtLineStart (s ++ take (at + 1) piece)
  starts_line = record {
    no_command = ap telnet_of split ∙ telnet_of-append (s ++ take at piece) (10 ∷ [])
        ∙ ap (λ k. telnet_along k (10 ∷ [])) (sym stood.telnet ∙ a.no_command);
    no_rest = ap rest_of split ∙ rest_of_end (s ++ take at piece) (10 ∷ []) gives;
  }

  -- the line was lent
  pub Feeds_line : (line : Line) → value_of line ≡ kept_line new.head new.over
      → Feeds s piece (record { used = at + 1; line = Some line })
  Feeds_line line e = record {
    in_range = omega (arith, a.in_range);
    gains = ap lines_of split ∙ lines_of_end (s ++ take at piece) (10 ∷ []) gives
        ∙ ap (λ l. l ++ line_of (rest_of (s ++ take at piece)) ∷ []) (a.advances.same_lines s h)
        ∙ ap (λ l. lines_of s ++ l ∷ [])
        (sym (e ∙ kept_line_is new.head (rest_of (s ++ take at piece)) new.over stood.head stood.over));
    shortest = λ n l. lines_of_before s piece n at (omega arith) (a.advances.same_lines s h);
    whole = λ none. absurd (true≢false none);
    starts = λ _. starts_line;
  }

  -- and nothing is kept
  pub KeptAfter_line : KeptAfter (record { telnet = new.telnet; head = []; over = false }) (s ++ take (at + 1) piece)
  KeptAfter_line = record {
    telnet = a.no_command ∙ sym starts_line.no_command;
    head = ap (take (kept_limit + 1)) (sym starts_line.no_rest);
    over = ap (λ r. nat_lt (kept_limit + 1) (length r)) (sym starts_line.no_rest);
  }

-- the value of a reader that has lent its line
pub value_where_lent : (u : Unfinished) (lent : Bool) → lent ≡ true → lines_value u lent ≡ lines_value u true
value_where_lent u lent e = ap (lines_value u) e

-- the value of a reader that has lent none
pub value_where_not_lent : (u : Unfinished) (lent : Bool) → lent ≡ false → lines_value u lent ≡ lines_value u false
value_where_not_lent u lent e = ap (lines_value u) e

-- the first n of the first n + 1
take_one_less : (n : ℕ) (r : List ℕ) → take n (take (suc n) r) ≡ take n r
take_one_less zero r = refl
take_one_less (suc n) [] = refl
take_one_less (suc n) (x ∷ r) = ap (λ l. x ∷ l) (take_one_less n r)

-- a front of one that is a byte longer is the front
take_fewer : (n m : ℕ) (r : List ℕ) → m ≡ suc n → take n (take m r) ≡ take n r
take_fewer n m r e = ap (λ k. take n (take k r)) e ∙ take_one_less n r

-- what is held
pub bytes_of_head : (v : Kept) (s : List ℕ) → KeptAfter v s → take kept_limit v.head ≡ take kept_limit (rest_of s)
bytes_of_head v s h =
    ap (take kept_limit) h.head ∙ take_fewer kept_limit (kept_limit + 1) (rest_of s) (omega arith)

-- how much is held
pub held_of_head : (v : Kept) (s : List ℕ) → KeptAfter v s
    → min (length v.head) kept_limit ≡ min kept_limit (length (rest_of s))
held_of_head v s h =
    let long : length v.head ≡ min (kept_limit + 1) (length (rest_of s)) =
    ap length h.head ∙ length-take (kept_limit + 1) (rest_of s) in
    omega arith
