-- The laws of `specs/StreamLaws.antt`. The last lemmas have the names of the functions in `laws`, whose contracts they
-- prove.
use Rattle.std.proofs.Common.{◌≡◌, ℕ, ◌≤◌, Bool, true, false, cond, eqb, zero, suc, List, [], ◌∷◌, ◌++◌, length, take, drop, map, refl, sym, ap, ◌∙◌, arith, append_assoc, get_or, ◌+◌, length-drop, ne_eqb, ◌≢◌, inl, inr}
use Rattle.std.specs.Prelude.{◌⊎◌, nat_lt, nat_eq, All}
use Rattle.std.specs.List.{starts_with, concat}
use Rattle.std.proofs.lemmas.List.{take_all, map-append, length-append, length-take}
use Rattle.std.proofs.lemmas.List.Elements.{All-nil, All-cons, All-head, All-tail, All-map, All-same, All-from_get_or}
use Rattle.std.proofs.lemmas.Slice.Eq.{starts_is}
use Rattle.std.proofs.lemmas.Bool.Decides.{Decides-eqb}
use Rattle.std.specs.Str.Lines.{strip_carriage_return}
use Rattle.fibs_lines.specs.Lines.{kept_limit, ReadLine, plain, finished_parts, login_prompt, command_prompt, without_some_prompts, without_prompts, line_of, lines_of, rest_of}
use Rattle.fibs_lines.specs.Standing.{telnet_of, AtLineStart}
use Rattle.fibs_lines.specs.LinesValue.{limited}
use Rattle.fibs_lines.specs.StreamLaws.{PartsAreLinesAndRest, EmptyStreamHasNoLine, LinesOnlyGrow, with_line_end, LineEndIsALineStart, LineStartReadsAlone, WhatFollowsALineEndReadsAlone, LinesFit, IsSendable, SendableTextIsItsLine, PromptsThen, PromptsAreRemoved}
use Rattle.fibs_lines.specs.Progress.{IsRun, ends_run}
use Rattle.fibs_lines.specs.declared.telnet.Telnet.{Telnet}
use Rattle.fibs_lines.specs.declared.telnet.Telnet.TheVariants.{Data, Command, Negotiation}
use Rattle.fibs_lines.proofs.Parts.{finished, has_end, after_end, after_end_none, finished_some, finished_none, slice_split-is, finished_parts-is, lines_of-is, rest_of-is}
use Rattle.fibs_lines.proofs.Streams.{data_along, telnet_along, plain-along, plain-append, telnet_of-along, telnet_of-append, after_end-append_none, after_end-append_end, has_end-append, lines_of_end, lines_of_grow, lines_of-nil}
use Rattle.fibs_lines.proofs.RunLemmas.{IsRun-append, has_end_run, data_along_run, telnet_along_run}
use Rattle.fibs_lines.proofs.ReturnLemmas.{same_read_line, strip-is, without_return_yes}
use Rattle.fibs_lines.proofs.PromptLemmas.{without_prompts_login, without_prompts_command, without_prompts_none}

-- what follows the last line end, if the second list has one
after_end-append_some : (p q : List ℕ) → has_end q ≡ true → after_end (p ++ q) ≡ after_end q
unfolding after_end
after_end-append_some [] q h = refl
after_end-append_some (x ∷ p) q h =
    let e : has_end (p ++ q) ≡ true = grind (arith, has_end-append p q, h) in
    ap (λ b. cond b (after_end (p ++ q)) (cond (eqb x 10) (p ++ q) (x ∷ p ++ q))) e ∙ after_end-append_some p q h

-- what follows the last line end, if the first list ends with one
after_end-boundary : (p q : List ℕ) (b : Bool) → has_end q ≡ b → after_end p ≡ [] → after_end (p ++ q) ≡ after_end q
after_end-boundary p q true h e = after_end-append_some p q h
after_end-boundary p q false h e = after_end-append_none p q h ∙ ap (λ l. l ++ q) e ∙ sym (after_end_none q h)

-- the closed parts of two lists, with one byte more in front
finished-boundary_step : (x : ℕ) (p q : List ℕ) (b c : Bool) → has_end p ≡ b → eqb x 10 ≡ c → after_end (x ∷ p) ≡ []
    → (after_end p ≡ [] → finished (p ++ q) ≡ finished p ++ finished q)
    → finished (x ∷ p ++ q) ≡ finished (x ∷ p) ++ finished q
unfolding finished after_end
finished-boundary_step x p q true c h i e ih =
    let more = finished_some p h in
    let r = more.0 in
    let rs = more.1 in
    let is : finished p ≡ r ∷ rs = more.2 in
    let empty : after_end p ≡ [] = sym (ap (λ b. cond b (after_end p) (cond (eqb x 10) p (x ∷ p))) h) ∙ e in
    let whole = ih empty in
    grind arith
finished-boundary_step x p q false true h i e ih =
    let empty : p ≡ [] =
    sym (ap (λ b. cond b (after_end p) (cond (eqb x 10) p (x ∷ p))) h ∙ ap (λ b. cond b p (x ∷ p)) i) ∙ e in
    let whole : finished (p ++ q) ≡ finished p ++ finished q =
    ap (λ l. finished (l ++ q)) empty ∙ sym (ap (λ l. finished l ++ finished q) empty) in
    grind arith
finished-boundary_step x p q false false h i e ih =
    let wrong : x ∷ p ≡ [] =
    sym (ap (λ b. cond b (after_end p) (cond (eqb x 10) p (x ∷ p))) h ∙ ap (λ b. cond b p (x ∷ p)) i) ∙ e in
    absurd (cc)

-- the closed parts of two lists, if the first ends with a line end
finished-boundary : (p q : List ℕ) → after_end p ≡ [] → finished (p ++ q) ≡ finished p ++ finished q
unfolding finished
finished-boundary [] q e = refl
finished-boundary (x ∷ p) q e = finished-boundary_step x p q (has_end p) (eqb x 10) refl refl e (finished-boundary p q)

module _ (s t : List ℕ) (a : AtLineStart s) where
  -- the data is that of the one and then that of the other
  plain_goes_on : plain (s ++ t) ≡ plain s ++ plain t
  plain_goes_on = plain-append s t ∙ ap (λ k. plain s ++ data_along k t) a.no_command
      ∙ ap (λ l. plain s ++ l) (sym (plain-along t))

  -- what comes after a line's start gives its own lines
  pub lines_of-append : lines_of (s ++ t) ≡ lines_of s ++ lines_of t
  lines_of-append =
      lines_of-is (s ++ t) ∙ ap (λ p. map line_of (finished p)) plain_goes_on
      ∙ ap (map line_of) (finished-boundary (plain s) (plain t) (sym (rest_of-is s) ∙ a.no_rest))
      ∙ map-append line_of (finished (plain s)) (finished (plain t))
      ∙ ap (λ ls. ls ++ map line_of (finished (plain t))) (sym (lines_of-is s))
      ∙ ap (λ ls. lines_of s ++ ls) (sym (lines_of-is t))

  -- the rest is that of what came after
  pub rest_of-append : rest_of (s ++ t) ≡ rest_of t
  rest_of-append =
      rest_of-is (s ++ t) ∙ ap after_end plain_goes_on
      ∙ after_end-boundary (plain s) (plain t) (has_end (plain t)) refl (sym (rest_of-is s) ∙ a.no_rest)
      ∙ sym (rest_of-is t)

  -- how much of a command is at the end is that of what came after
  pub telnet_of-append_start : telnet_of (s ++ t) ≡ telnet_of t
  telnet_of-append_start = telnet_of-append s t ∙ ap (λ k. telnet_along k t) a.no_command ∙ sym (telnet_of-along t)

-- what follows a line's start is read as if it were alone
pub line_start_reads_alone : LineStartReadsAlone
line_start_reads_alone s t a = record {
  lines = lines_of-append s t a;
  rest = rest_of-append s t a;
  start =
      λ b. record
      { no_command = telnet_of-append_start s t a ∙ b.no_command; no_rest = rest_of-append s t a ∙ b.no_rest };
}

-- the parts between the line ends are the finished ones, and then the rest
pub parts_are_lines_and_rest : PartsAreLinesAndRest
parts_are_lines_and_rest s =
    slice_split-is (plain s) ∙ ap (λ ps. ps ++ after_end (plain s) ∷ []) (sym (finished_parts-is (plain s)))
    ∙ ap (λ r. finished_parts (plain s) ++ r ∷ []) (sym (rest_of-is s))

-- no command is open in the empty stream
telnet_of-nil : telnet_of [] ≡ Data
unfolding telnet_of
telnet_of-nil = refl

-- the empty stream has no rest
rest_of-nil : rest_of [] ≡ []
unfolding rest_of plain
rest_of-nil = refl

-- the empty stream has no line, and is at a line's start
pub empty_stream_has_no_line : EmptyStreamHasNoLine
empty_stream_has_no_line = (lines_of-nil, record { no_command = telnet_of-nil; no_rest = rest_of-nil })

-- what comes later takes no line back and changes none
pub lines_only_grow : LinesOnlyGrow
lines_only_grow s t = lines_of_grow s t

-- a CR closes any command, and an LF after it is a byte of the text
closed : (k : Telnet) → telnet_along k (13 ∷ 10 ∷ []) ≡ Data
closed Data = refl
closed Command = refl
closed Negotiation = refl

-- after CR LF nothing follows the last line end
ended : (p : List ℕ) (k : Telnet) → after_end (p ++ data_along k (13 ∷ 10 ∷ [])) ≡ []
ended p Data = ap after_end (sym (append_assoc p (13 ∷ []) (10 ∷ []))) ∙ after_end-append_end (p ++ 13 ∷ [])
ended p Command = after_end-append_end p
ended p Negotiation = after_end-append_end p

-- after CR LF a stream is at a line's start
pub line_end_is_a_line_start : LineEndIsALineStart
line_end_is_a_line_start t = record {
  no_command = telnet_of-append t (13 ∷ 10 ∷ []) ∙ closed (telnet_of t);
  no_rest = rest_of-is (with_line_end t) ∙ ap after_end (plain-append t (13 ∷ 10 ∷ [])) ∙ ended (plain t) (telnet_of t);
}

-- what follows CR LF is read as if it were alone
pub what_follows_a_line_end_reads_alone : WhatFollowsALineEndReadsAlone
what_follows_a_line_end_reads_alone t s = line_start_reads_alone (with_line_end t) s (line_end_is_a_line_start t)

-- a text that nothing interrupts
goes_on : (x : ℕ) → x ≢ 10 → x ≢ 255 → ends_run x ≡ false
goes_on x h i = let a = ne_eqb x 10 h in let b = ne_eqb x 255 i in grind arith

-- a text without LF and 255 is a run
IsRun-from_all : (l : List ℕ) → All (λ b. b ≢ 10) l → All (λ b. b ≢ 255) l → IsRun l
IsRun-from_all [] h i = tt
IsRun-from_all (x ∷ l) h i =
    let P : ℕ → Type 0 = λ b. b ≢ 10 in
    let Q : ℕ → Type 0 = λ b. b ≢ 255 in
    (goes_on x (All-head P x l h) (All-head Q x l i), IsRun-from_all l (All-tail P x l h) (All-tail Q x l i))

-- what fits is not longer than the limit
not_over : (n : ℕ) → n ≤ kept_limit → nat_lt kept_limit n ≡ false
not_over n i = grind arith

module _ (l : List ℕ) (h : IsRun l) where
  -- the text and CR are a run
  begun : IsRun (l ++ 13 ∷ [])
  begun = IsRun-append l (13 ∷ []) h (refl, tt)

  -- they are their own data
  gives : plain (l ++ 13 ∷ []) ≡ l ++ 13 ∷ []
  gives = plain-along (l ++ 13 ∷ []) ∙ data_along_run (l ++ 13 ∷ []) begun

  -- no command is open after them
  open_line : telnet_of (l ++ 13 ∷ []) ≡ Data
  open_line = telnet_of-along (l ++ 13 ∷ []) ∙ telnet_along_run (l ++ 13 ∷ []) begun

  -- the LF after them is a line end
  ends : plain (l ++ 13 ∷ [] ++ 10 ∷ []) ≡ plain (l ++ 13 ∷ []) ++ 10 ∷ []
  ends = plain-append (l ++ 13 ∷ []) (10 ∷ []) ∙ ap (λ k. plain (l ++ 13 ∷ []) ++ data_along k (10 ∷ [])) open_line

  -- the text as it is sent
  split : with_line_end l ≡ l ++ 13 ∷ [] ++ 10 ∷ []
  split = sym (append_assoc l (13 ∷ []) (10 ∷ []))

  -- the text and CR are the rest before the LF
  rest_before : rest_of (l ++ 13 ∷ []) ≡ l ++ 13 ∷ []
  rest_before = rest_of-is (l ++ 13 ∷ []) ∙ ap after_end gives
      ∙ after_end_none (l ++ 13 ∷ []) (has_end_run (l ++ 13 ∷ []) begun)

  -- there is no line before the LF
  none_before : lines_of (l ++ 13 ∷ []) ≡ []
  none_before =
      lines_of-is (l ++ 13 ∷ []) ∙ ap (λ p. map line_of (finished p)) gives
      ∙ ap (map line_of) (finished_none (l ++ 13 ∷ []) (has_end_run (l ++ 13 ∷ []) begun))

  -- the line of that rest is what is kept of the text
  line_of_run : line_of (l ++ 13 ∷ []) ≡ limited l false
  unfolding line_of
  line_of_run = ap (λ p. limited p false) (strip-is (l ++ 13 ∷ []) ∙ without_return_yes l)

  -- it is one line
  pub lines_of_run : lines_of (with_line_end l) ≡ limited l false ∷ []
  lines_of_run =
      ap lines_of split ∙ lines_of_end (l ++ 13 ∷ []) (10 ∷ []) ends
      ∙ ap (λ ls. ls ++ line_of (rest_of (l ++ 13 ∷ [])) ∷ []) none_before
      ∙ ap (λ r. line_of r ∷ []) rest_before ∙ ap (λ x. x ∷ []) line_of_run

-- of a sendable text all is kept
limited_sent : (l : List ℕ) → IsSendable l → limited l false ≡ record { bytes = l; cut = false }
limited_sent l h =
    same_read_line _ _
    (ap without_prompts (take_all kept_limit l h.fits)
    ∙ without_prompts_none l h.no_login_prompt h.no_command_prompt)
    (not_over (length l) h.fits)

-- sent at a line's start, a sendable text is one uncut line that equals it
pub sendable_text_is_its_line : SendableTextIsItsLine
sendable_text_is_its_line s text a h =
    lines_of-append s (with_line_end text) a
    ∙ ap (λ ls. lines_of s ++ ls)
    (lines_of_run text (IsRun-from_all text h.no_line_end h.no_command) ∙ ap (λ x. x ∷ []) (limited_sent text h))

-- the prompts at a line's start
abbrev IsPrompt : List ℕ → Type 0
IsPrompt p = (p ≡ login_prompt) ⊎ (p ≡ command_prompt)

-- what a test for a prompt says
begins : (l p : List ℕ) → starts_with nat_eq l p ≡ true → l ≡ p ++ drop (length p) l
begins l p h = (starts_is Decides-eqb l p (starts_with nat_eq l p) refl).0 h

-- one prompt more in front
PromptsThen-more : (l p q rest : List ℕ) → IsPrompt p → l ≡ p ++ q → PromptsThen q rest → PromptsThen l rest
PromptsThen-more l p q rest is e h = record {
  prompts = p ∷ h.prompts;
  each = All-cons IsPrompt p h.prompts is h.each;
  joined = e ∙ ap (λ x. p ++ x) h.joined ∙ sym (append_assoc p (concat h.prompts) rest);
  no_login_prompt = h.no_login_prompt;
  no_command_prompt = h.no_command_prompt;
}

-- a line that begins with no prompt
PromptsThen-none : (l : List ℕ) → starts_with nat_eq l login_prompt ≡ false
    → starts_with nat_eq l command_prompt ≡ false → PromptsThen l l
PromptsThen-none l h i =
    record { prompts = []; each = All-nil IsPrompt; joined = refl; no_login_prompt = h; no_command_prompt = i }

-- the tests decide how the removal goes on
removed_step : (n : ℕ) (l : List ℕ) (a b : Bool) → starts_with nat_eq l login_prompt ≡ a
    → starts_with nat_eq l command_prompt ≡ b
    → ((r : List ℕ) → length r ≤ n → PromptsThen r (without_some_prompts n r)) → length l ≤ suc n
    → PromptsThen l (cond a (without_some_prompts n (drop 7 l)) (cond b (without_some_prompts n (drop 2 l)) l))
removed_step n l true b h i ih small =
    let e = begins l login_prompt h in
    PromptsThen-more l login_prompt (drop 7 l) _ (inl refl) e (ih (drop 7 l) (omega (arith, length-drop 7 l)))
removed_step n l false true h i ih small =
    let e = begins l command_prompt i in
    PromptsThen-more l command_prompt (drop 2 l) _ (inr refl) e (ih (drop 2 l) (omega (arith, length-drop 2 l)))
removed_step n l false false h i ih small = PromptsThen-none l h i

-- what is removed are prompts, and none is left
removed : (n : ℕ) (l : List ℕ) → length l ≤ n → PromptsThen l (without_some_prompts n l)
unfolding without_some_prompts
removed zero [] small = PromptsThen-none [] refl refl
removed zero (x ∷ l) small = absurd (omega arith)
removed (suc n) l small =
    removed_step n l (starts_with nat_eq l login_prompt) (starts_with nat_eq l command_prompt) refl refl (removed n)
    small

-- a row of prompts goes whole
prompts_go : (ps : List (List ℕ)) (rest : List ℕ) → All IsPrompt ps → starts_with nat_eq rest login_prompt ≡ false
    → starts_with nat_eq rest command_prompt ≡ false
    → rest ≡ without_prompts (concat ps ++ rest)
prompts_go [] rest is h i = sym (without_prompts_none rest h i)
prompts_go (p ∷ ps) rest is h i =
    let later = prompts_go ps rest (All-tail IsPrompt p ps is) h i in
    let whole = append_assoc p (concat ps) rest in
    one (All-head IsPrompt p ps is) later ∙ sym (ap without_prompts whole)
  where
    one : IsPrompt p → rest ≡ without_prompts (concat ps ++ rest) → rest ≡ without_prompts (p ++ (concat ps ++ rest))
    one (inl e) later =
        later ∙ sym (without_prompts_login (login_prompt ++ (concat ps ++ rest)) refl)
        ∙ ap (λ q. without_prompts (q ++ (concat ps ++ rest))) (sym e)
    one (inr e) later =
        later ∙ sym (without_prompts_command (command_prompt ++ (concat ps ++ rest)) refl refl)
        ∙ ap (λ q. without_prompts (q ++ (concat ps ++ rest))) (sym e)

-- the prompts are removed, all of them and nothing else
pub prompts_are_removed : PromptsAreRemoved
prompts_are_removed = (
  λ line. removed (length line) line (omega arith),
  λ line rest h. prompts_go h.prompts rest h.each h.no_login_prompt h.no_command_prompt
      ∙ sym (ap without_prompts h.joined),
)

-- a line of a part fits
line_fits : (part : List ℕ) → length (line_of part).bytes ≤ kept_limit
unfolding line_of
line_fits part =
    let kept = take kept_limit (strip_carriage_return part) in
    let h = prompts_are_removed.0 kept in
    let long : length kept ≡ length (concat h.prompts) + length (without_prompts kept) =
    ap length h.joined ∙ length-append (concat h.prompts) (without_prompts kept) in
    omega (arith, long, length-take kept_limit (strip_carriage_return part))

-- no line is longer than the limit
pub lines_fit : LinesFit
lines_fit s =
    let Fits : ReadLine → Type 0 = λ l. length l.bytes ≤ kept_limit in
    let parts = finished (plain s) in
    All-same Fits (lines_of s) (map line_of parts) (lines_of-is s)
    (All-map Fits line_of parts
    (All-from_get_or (λ part. Fits (line_of part)) parts [] (λ i _. line_fits (get_or parts i []))))
