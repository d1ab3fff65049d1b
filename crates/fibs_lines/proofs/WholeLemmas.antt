-- A line that is whole in a piece, of literal bytes.
use Rattle.std.proofs.Common.{◌≡◌, ℕ, zero, suc, ◌+◌, ◌-◌, ◌<◌, Bool, true, false, ◌&&◌, List, [], ◌∷◌, ◌++◌, length, get_or, take, drop, Some, refl, sym, ap, subst, ◌∙◌, arith, inl, inr, true≢false, take-append-drop}
use Rattle.std.specs.Prelude.{nat_lt}
use Rattle.std.specs.List.{list_all, concat}
use Rattle.std.specs.Str.Lines.{strip_carriage_return}
use Rattle.std.proofs.lemmas.Bool.{and_parts}
use Rattle.std.proofs.lemmas.List.{get_or-take, length-take-le, take_more}
use Rattle.std.proofs.lemmas.List.Folds.{list_all-append}
use Rattle.fibs_lines.specs.Lines.{kept_limit, value_of, line_of, without_prompts}
use Rattle.fibs_lines.specs.LinesValue.{LinesValue, StandsAfter, limited, kept_line}
use Rattle.fibs_lines.specs.Literal.{is_literal}
use Rattle.fibs_lines.specs.Feeding.{Feeds}
use Rattle.fibs_lines.specs.Progress.{IsRun, ends_run, Kept, KeptAfter, AdvancesToEnd, IsLiteralTo, IsEndAfter}
use Rattle.fibs_lines.specs.declared.line.Line.{Line}
use Rattle.fibs_lines.specs.declared.telnet.Telnet.{Telnet}
use Rattle.fibs_lines.specs.declared.telnet.Telnet.TheVariants.{Data}
use Rattle.fibs_lines.proofs.RunLemmas.{IsRun_take, IsRun-next}
use Rattle.fibs_lines.proofs.Advancing.{Advances-run}
use Rattle.fibs_lines.proofs.ReturnLemmas.{strip-is, without_return_none, without_return_yes, kept_line_is}
use Rattle.fibs_lines.proofs.FeedLemmas.{kept_of, StandsAfter-from_kept, KeptAfter-from_stands, Feeds_line, KeptAfter_line}
use Rattle.fibs_lines.proofs.StreamLawProofs.{prompts_are_removed}

-- a literal byte ends no run
literal_goes_on : (b : ℕ) → is_literal b ≡ true → ends_run b ≡ true → ⊥
literal_goes_on b h e = grind arith

-- a literal byte is no CR
literal_no_return : (b : ℕ) → is_literal b ≡ true → b ≡ 13 → ⊥
literal_no_return b h e = true≢false (sym h ∙ ap is_literal e)

-- literal bytes at a front are a list of such
literal_front : (n : ℕ) (bytes : List ℕ) → IsLiteralTo bytes n → list_all is_literal (take n bytes) ≡ true
literal_front zero bytes h = refl
literal_front (suc n) [] h = refl
literal_front (suc n) (b ∷ bytes) h =
    let here : is_literal b ≡ true = h.each 0 (omega arith) in
    let rest : IsLiteralTo bytes n =
    record { in_range = omega (arith, h.in_range); each = λ k l. h.each (suc k) (omega arith) } in
    ap (λ x. x && list_all is_literal (take n bytes)) here ∙ literal_front n bytes rest

-- the front of a literal list is literal, and so is what follows it
literal_parts : (l m : List ℕ) → list_all is_literal (l ++ m) ≡ true
    → (list_all is_literal l ≡ true) × (list_all is_literal m ≡ true)
literal_parts l m h =
    and_parts (list_all is_literal l) (list_all is_literal m) (sym (list_all-append is_literal l m) ∙ h)

-- so is what the limit and the prompts leave of it
literal_kept : (l : List ℕ) → list_all is_literal l ≡ true
    → list_all is_literal (without_prompts (take kept_limit l)) ≡ true
literal_kept l h =
    let kept : List ℕ = take kept_limit l in
    let whole = ap (list_all is_literal) (take-append-drop kept_limit l) ∙ h in
    let front = (literal_parts kept (drop kept_limit l) whole).0 in
    let parts = prompts_are_removed.0 kept in
    let joined = ap (list_all is_literal) (sym parts.joined) ∙ front in
    (literal_parts (concat parts.prompts) (without_prompts kept) joined).1

-- a reader that keeps nothing
abbrev nothing : Kept
nothing = record { telnet = Data; head = []; over = false }

-- what is kept of a line's bytes
abbrev kept_bytes : List ℕ → Kept
kept_bytes t =
    record { telnet = Data; head = take (kept_limit + 1) t; over = nat_lt (kept_limit + 1) (length t) }

module _ (piece : List ℕ) (len at : ℕ) (h : IsLiteralTo piece len) (e : IsEndAfter piece len at) where
  -- no line ends before the place, and no command begins
  whole_run : IsRun (take at piece)
  whole_run =
      let run : IsRun (take len piece) =
      IsRun_take len piece (λ j l. literal_goes_on (get_or piece j 0) (h.each j l)) in
      elim e.follows [
        | inl same ↦ subst (λ n. IsRun (take n piece)) (sym same) run
        | inr next ↦
            subst (λ n. IsRun (take n piece)) (sym next.0)
            (IsRun-next len piece (omega (arith, e.in_range, next.0)) run (ap ends_run next.1))
      ]

  -- the last literal byte is no CR
  last_is_literal : 0 < length (take len piece) → get_or (take len piece) (length (take len piece) - 1) 0 ≡ 13 → ⊥
  last_is_literal some cr =
      let long : length (take len piece) ≡ len = length-take-le len piece h.in_range in
      let last : length (take len piece) - 1 ≡ len - 1 = omega (arith, long) in
      let within : len - 1 < len = omega (arith, long, some) in
      literal_no_return (get_or piece (len - 1) 0) (h.each (len - 1) within)
      (sym (ap (λ n. get_or (take len piece) n 0) last ∙ get_or-take len piece (len - 1) 0 within) ∙ cr)

  -- the line's text is what is literal: a CR before the place goes
  whole_text : strip_carriage_return (take at piece) ≡ take len piece
  whole_text = elim e.follows [
    | inl same ↦
        ap (λ n. strip_carriage_return (take n piece)) same ∙ strip-is (take len piece)
        ∙ without_return_none (take len piece) last_is_literal
    | inr next ↦
        ap (λ n. strip_carriage_return (take n piece)) next.0
        ∙ ap strip_carriage_return (take_more piece len 0 (omega (arith, e.in_range, next.0))
        ∙ ap (λ b. take len piece ++ b ∷ []) next.1)
        ∙ strip-is (take len piece ++ 13 ∷ []) ∙ without_return_yes (take len piece)
  ]

  -- a reader that keeps nothing goes on to the place
  whole_advances : AdvancesToEnd nothing (kept_bytes (take at piece)) piece at
  whole_advances = record {
    in_range = e.in_range;
    advances = Advances-run nothing (kept_bytes (take at piece)) (take at piece) whole_run refl refl refl refl;
    no_command = refl;
    end = e.end;
  }

  -- the line is that of what is kept
  whole_line_of : limited (take len piece) false
      ≡ kept_line (kept_bytes (take at piece)).head (kept_bytes (take at piece)).over
  unfolding line_of
  whole_line_of =
      let kept = kept_bytes (take at piece) in
      ap (λ l. limited l false) (sym whole_text) ∙ sym (kept_line_is kept.head (take at piece) kept.over refl refl)

-- the value of a reader that keeps nothing
pub same_kept : (v : LinesValue) → v.telnet ≡ Data → v.head ≡ [] → v.over ≡ false → kept_of v ≡ nothing
same_kept v t f o =
    ap (λ (k : Telnet). record { telnet = k; head = v.head; over = v.over }) t
    ∙ ap (λ (l : List ℕ). record { telnet = Data; head = l; over = v.over }) f
    ∙ ap (λ (b : Bool). record { telnet = Data; head = []; over = b }) o

module _ (v : LinesValue) (piece : List ℕ) (len at : ℕ) (empty : kept_of v ≡ nothing) (h : IsLiteralTo piece len)
    (e : IsEndAfter piece len at) (s : List ℕ) (stands : StandsAfter v s) where
  -- nothing is kept before the line
  whole_before : KeptAfter nothing s
  whole_before = subst (λ k. KeptAfter k s) empty (KeptAfter-from_stands v s stands)

  -- `feed` would answer the line
  pub whole_feeds : (line : Line) → value_of line ≡ limited (take len piece) false
      → Feeds s piece (record { used = at + 1; line = Some line })
  whole_feeds line is =
      Feeds_line nothing (kept_bytes (take at piece)) s piece at (whole_advances piece len at h e) whole_before line
      (is ∙ whole_line_of piece len at h e)

  -- nothing is kept after it
  pub whole_stands : StandsAfter v (s ++ take (at + 1) piece)
  whole_stands =
      StandsAfter-from_kept v (s ++ take (at + 1) piece)
      (subst (λ k. KeptAfter k (s ++ take (at + 1) piece)) (sym empty)
      (KeptAfter_line nothing (kept_bytes (take at piece)) s piece at (whole_advances piece len at h e) whole_before))

-- the line's bytes are literal
pub whole_literal : (piece : List ℕ) (len : ℕ) (line : Line) → IsLiteralTo piece len
    → value_of line ≡ limited (take len piece) false → list_all is_literal line.bytes.now ≡ true
whole_literal piece len line h is =
    ap (λ l. list_all is_literal l.bytes) is ∙ literal_kept (take len piece) (literal_front len piece h)
