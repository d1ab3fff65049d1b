-- Why `fix` turns off what is on, each once.
use Rattle.std.proofs.Common.{◌≡◌, ◌⊎◌, ◌<◌, ◌+◌, ℕ, suc, Bool, true, false, not, cond, List, codes, Some, None, refl, ap, ◌∙◌, inl, inr, arith}
use Rattle.std.specs.Prelude.{nat_lt}
use Rattle.std.proofs.lemmas.Bool.Decides.{nat_tests}
use Rattle.fibs_terminal.specs.Fixing.{AreFew, FixTurnsOff, TurnsAllOff, TurnsOff, after_typed, count_on, first_off, is_asked, one_if, sent_line, turn_of}
use Rattle.fibs_terminal.specs.Toggles.{after_line as toggled_by, after_sent, flipped, is_on}
use Rattle.fibs_terminal.specs.declared.fixing.FixLine.{FixLine}
use Rattle.fibs_terminal.specs.declared.fixing.FixLine.TheVariants as L
use Rattle.fibs_terminal.specs.declared.fixing.FixStep.{FixStep}
use Rattle.fibs_terminal.specs.declared.fixing.FixStep.TheVariants as S
use Rattle.fibs_terminal.specs.declared.toggles.Toggle.{Toggle}
use Rattle.fibs_terminal.specs.declared.toggles.Toggles.{Toggles}

-- no line but `bye` leaves the question open
pub asked_by_bye : (step : FixStep) (bye asks : Bool) → bye ≡ false → is_asked (after_typed step bye asks) ≡ false
asked_by_bye S.Nothing false asks e = refl
asked_by_bye S.Toggles false asks e = refl
asked_by_bye S.Leaves false asks e = refl
asked_by_bye S.Asked false asks e = refl
asked_by_bye S.Opens false asks e = refl
asked_by_bye step true asks e = absurd cc

-- nor does one that is not only answered
pub asked_if_asked : (step : FixStep) (bye asks : Bool) → asks ≡ false → is_asked (after_typed step bye asks) ≡ false
asked_if_asked S.Nothing bye false e = refl
asked_if_asked S.Toggles bye false e = refl
asked_if_asked S.Leaves true false e = refl
asked_if_asked S.Leaves false false e = refl
asked_if_asked S.Asked true false e = refl
asked_if_asked S.Asked false false e = refl
asked_if_asked S.Opens bye false e = refl
asked_if_asked step bye true e = absurd cc

-- a line that is counted changes the setting
sent_changes : (t : Toggle) → t.unanswered < 255 → is_on (after_sent t) ≡ not (is_on t)
sent_changes t few =
    let counted : nat_lt t.unanswered 255 ≡ true = grind (arith, nat_tests) in
    ap (λ (b : Bool). flipped (cond b (suc t.unanswered) t.unanswered) t.told) counted

-- which setting a line is about
line_about : (x y a b : Bool) (line : FixLine) → first_off (turn_of x a) (turn_of y b) ≡ Some line
    → ((x ≡ true) × (sent_line line ≡ codes "toggle automove"))
    ⊎ ((y ≡ true) × (sent_line line ≡ codes "toggle greedy"))
line_about true y true b line e = inl (refl, ap sent_line (let h : line ≡ L.Automove = cc in h))
line_about true y false b line e = inl (refl, ap sent_line (let h : line ≡ L.SendAutomove = cc in h))
line_about false true a true line e = inr (refl, ap sent_line (let h : line ≡ L.Greedy = cc in h))
line_about false true a false line e = inr (refl, ap sent_line (let h : line ≡ L.SendGreedy = cc in h))
line_about false false a b line e = absurd cc

-- one about automove, which is on
by_automove : (t : Toggles) (line : List ℕ) → AreFew t → is_on t.automove ≡ true → line ≡ codes "toggle automove"
    → count_on (toggled_by line t) + 1 ≡ count_on t
by_automove t line few on same =
    let off : is_on (after_sent t.automove) ≡ false = sent_changes t.automove few.automove ∙ ap not on in
    let less : count_on (toggled_by line t) ≡ one_if (is_on t.greedy) =
    ap (λ (l : List ℕ). count_on (toggled_by l t)) same
    ∙ ap (λ (x : Bool). one_if x + one_if (is_on t.greedy)) off ∙ omega arith in
    let some : count_on t ≡ 1 + one_if (is_on t.greedy) =
    ap (λ (x : Bool). one_if x + one_if (is_on t.greedy)) on in
    omega arith

-- one about greedy, which is on
by_greedy : (t : Toggles) (line : List ℕ) → AreFew t → is_on t.greedy ≡ true → line ≡ codes "toggle greedy"
    → count_on (toggled_by line t) + 1 ≡ count_on t
by_greedy t line few on same =
    let off : is_on (after_sent t.greedy) ≡ false = sent_changes t.greedy few.greedy ∙ ap not on in
    let less : count_on (toggled_by line t) ≡ one_if (is_on t.automove) =
    ap (λ (l : List ℕ). count_on (toggled_by l t)) same
    ∙ ap (λ (x : Bool). one_if (is_on t.automove) + one_if x) off ∙ omega arith in
    let some : count_on t ≡ one_if (is_on t.automove) + 1 =
    ap (λ (x : Bool). one_if (is_on t.automove) + one_if x) on in
    omega arith

-- each line turns off one of them
turns_off : TurnsOff
turns_off t automove greedy line few e =
    elim (line_about (is_on t.automove) (is_on t.greedy) automove greedy line e) [
      | inl h ↦ by_automove t (sent_line line) few h.0 h.1
      | inr h ↦ by_greedy t (sent_line line) few h.0 h.1
    ]

-- without one nothing is on
none_on : (x y a b : Bool) → first_off (turn_of x a) (turn_of y b) ≡ None → one_if x + one_if y ≡ 0
none_on true y true b e = absurd cc
none_on true y false b e = absurd cc
none_on false true a true e = absurd cc
none_on false true a false e = absurd cc
none_on false false a b e = refl

-- all are turned off
turns_all_off : TurnsAllOff
turns_all_off t automove greedy e = none_on (is_on t.automove) (is_on t.greedy) automove greedy e

-- what `fix` types turns off what is on, each once
pub fix_turns_off : FixTurnsOff
fix_turns_off = record { each = turns_off; all = turns_all_off }
