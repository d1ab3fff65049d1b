-- Texts that say plays.
use Rattle.std.proofs.Common.{◌≡◌, ◌++◌, ◌≤◌, ◌+◌, ◌∙◌, ℕ, List, Option, Some, codes, length, length-append, sym, ap, subst, arith}
use Rattle.std.proofs.lemmas.List.{append_cancel_right}
use Rattle.fibs_fields.specs.Board.{BoardFields}
use Rattle.fibs_rules.specs.Hop.{Hop}
use Rattle.fibs_position.specs.DecisionValue.{move}
use Rattle.fibs_position.specs.declared.direction.Direction.{Direction}
use Rattle.fibs_commands.specs.CommandReading.{ReadCommand}
use Rattle.fibs_commands.proofs.CommandLemmas.{commands_are_short}
use Rattle.fibs_events.specs.Texts.{SaysPlay, SaysPlayOf, way_of}
use Rattle.fibs_events.specs.declared.event.Side.{Side}

-- what is spelled before the full stop is one text
pub same_spelled : (way : Direction) (text spelled : List ℕ) (steps : List Hop) → text ≡ spelled ++ codes " ."
    → SaysPlay way text steps → ReadCommand (codes "move " ++ spelled) way (move steps)
same_spelled way text spelled steps is says =
    subst (λ s. ReadCommand (codes "move " ++ s) way (move steps))
    (append_cancel_right says.0 spelled (codes " .") (sym says.1 ∙ is)) says.2

-- the command of a play is no longer than its room
pub has_room : (way : Direction) (spelled : List ℕ) (steps : List Hop)
    → ReadCommand (codes "move " ++ spelled) way (move steps) → 5 + length spelled ≤ 36
has_room way spelled steps reads =
    let short = commands_are_short way (move steps) reads.valid in
    omega (arith, short, ap length reads.text_is, length-append (codes "move ") spelled)

-- a text that says no play of a player who goes this way says none of this side on the board that is known
pub no_play_of : (known : Option BoardFields) (b : BoardFields) (who other : Side) (way : Direction) (text : List ℕ)
    → known ≡ Some b → other ≡ who → way ≡ way_of who b → ((steps : List Hop) → ¬ SaysPlay way text steps)
    → (steps : List Hop) → ¬ SaysPlayOf known other text steps
no_play_of known b who other way text is same goes none =
    subst (λ k. (steps : List Hop) → ¬ SaysPlayOf k other text steps) (sym is)
    (subst (λ s. (steps : List Hop) → ¬ SaysPlay (way_of s b) text steps) (sym same)
    (subst (λ w. (steps : List Hop) → ¬ SaysPlay w text steps) goes none))
