-- The commands of decisions.
use Rattle.std.proofs.Common.{◌≡◌, ◌≤◌, ◌*◌, ℕ, List, [], ◌∷◌, length, get_or, refl, ap, arith, rules, length-append}
use Rattle.std.specs.Prelude.{All, codes}
use Rattle.std.proofs.lemmas.List.{append_cancel_left}
use Rattle.std.proofs.lemmas.List.Elements.{All-weaker, All-append, All-cons, All-nil, All-head, All-tail, All-from_recursion}
use Rattle.fibs_rules.specs.Hop.{Hop, IsStep}
use Rattle.fibs_position.specs.DecisionValue.{roll, double, accept, reject, move, resign}
use Rattle.fibs_position.specs.declared.direction.Direction.{Direction}
use Rattle.fibs_position.specs.declared.stake.Stake.{Stake}
use Rattle.fibs_position.specs.declared.stake.Stake.TheVariants.{Normal, Gammon, Backgammon}
use Rattle.fibs_commands.specs.Commands.{step_text, steps_text, stake_text, command_of}
use Rattle.fibs_commands.specs.CommandLaws.{CommandsTellDecisions, CommandsAreShort, CommandsArePrinted, PlainInBothDirections}
use Rattle.fibs_fields.specs.Printed.{IsPrinted}
use Rattle.fibs_commands.proofs.StepLemmas.{IsStepByte, step_bytes, step_short, steps_injective}

-- the steps' text is printed
steps_printed : (direction : Direction) (steps : List Hop) → All IsStep steps
    → All IsPrinted (steps_text direction steps)
steps_printed direction [] each = All-nil IsPrinted
steps_printed direction (step ∷ steps) each =
    let is : IsStep step = All-head IsStep step steps each in
    let first : All IsPrinted (step_text direction step) =
    All-weaker IsStepByte IsPrinted (λ b byte. (omega arith, omega arith)) _ (step_bytes direction step is) in
    let rest : All IsPrinted (steps_text direction steps) =
    steps_printed direction steps (All-tail IsStep step steps each) in
    All-append IsPrinted (32 ∷ step_text direction step) _ (All-cons IsPrinted 32 _ (omega arith, omega arith) first)
    rest

-- each step takes at most eight bytes
steps_short : (direction : Direction) (steps : List Hop) → All IsStep steps
    → length (steps_text direction steps) ≤ 8 * length steps
steps_short direction [] each = omega arith
steps_short direction (step ∷ steps) each =
    let rest = steps_short direction steps (All-tail IsStep step steps each) in
    omega (
      arith,
      rest,
      step_short direction step (All-head IsStep step steps each),
      length-append (32 ∷ step_text direction step) (steps_text direction steps),
    )

-- the third letter, by which the six words differ
abbrev third : List ℕ → ℕ
third text = get_or text 2 0

-- the first letter, by which stakes differ
abbrev first : List ℕ → ℕ
first text = get_or text 0 0

-- stakes of one letter are one
same_stake : (s t : Stake) → stake_text s ≡ stake_text t → s ≡ t
same_stake Normal Normal e = refl
same_stake Gammon Gammon e = refl
same_stake Backgammon Backgammon e = refl
same_stake s t e = absurd (omega (arith, ap first e))

-- in one direction decisions with the same command are the same
pub commands_tell_decisions : CommandsTellDecisions
unfolding command_of
commands_tell_decisions direction roll roll ia ib e = refl
commands_tell_decisions direction double double ia ib e = refl
commands_tell_decisions direction accept accept ia ib e = refl
commands_tell_decisions direction reject reject ia ib e = refl
commands_tell_decisions direction (move xs) (move ys) ia ib e =
    ap (λ steps. move steps) (steps_injective direction xs ys ia.0 ib.0 (append_cancel_left (codes "move") _ _ e))
commands_tell_decisions direction (resign s) (resign t) ia ib e =
    ap (λ stake. resign stake) (same_stake s t (append_cancel_left (codes "resign ") _ _ e))
commands_tell_decisions direction a b ia ib e = absurd (omega (arith, ap third e))

-- the command of a decision has at most 36 bytes
pub commands_are_short : CommandsAreShort
unfolding command_of
commands_are_short direction roll is = omega arith
commands_are_short direction double is = omega arith
commands_are_short direction accept is = omega arith
commands_are_short direction reject is = omega arith
commands_are_short direction (move steps) is =
    omega (arith, is.1, steps_short direction steps is.0, length-append (codes "move") (steps_text direction steps))
commands_are_short direction (resign Normal) is = omega arith
commands_are_short direction (resign Gammon) is = omega arith
commands_are_short direction (resign Backgammon) is = omega arith

-- the command of a decision has a byte, and all its bytes are printed text
pub commands_are_printed : CommandsArePrinted
unfolding command_of
commands_are_printed direction roll is = (All-from_recursion IsPrinted (codes "roll") (search rules), omega arith)
commands_are_printed direction double is = (All-from_recursion IsPrinted (codes "double") (search rules), omega arith)
commands_are_printed direction accept is = (All-from_recursion IsPrinted (codes "accept") (search rules), omega arith)
commands_are_printed direction reject is = (All-from_recursion IsPrinted (codes "reject") (search rules), omega arith)
commands_are_printed direction (move steps) is = (
  All-append IsPrinted (codes "move") _ (All-from_recursion IsPrinted (codes "move") (search rules))
      (steps_printed direction steps is.0),
  omega (arith, length-append (codes "move") (steps_text direction steps)),
)
commands_are_printed direction (resign Normal) is =
    (All-from_recursion IsPrinted (codes "resign n") (search rules), omega arith)
commands_are_printed direction (resign Gammon) is =
    (All-from_recursion IsPrinted (codes "resign g") (search rules), omega arith)
commands_are_printed direction (resign Backgammon) is =
    (All-from_recursion IsPrinted (codes "resign b") (search rules), omega arith)

-- but for a move the command of a decision is the same in both directions
pub plain_in_both_directions : PlainInBothDirections
unfolding command_of
plain_in_both_directions roll still = refl
plain_in_both_directions double still = refl
plain_in_both_directions accept still = refl
plain_in_both_directions reject still = refl
plain_in_both_directions (move steps) still = absurd still
plain_in_both_directions (resign stake) still = refl
