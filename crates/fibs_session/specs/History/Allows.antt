-- Which decisions a board allows, in a client's refusals (the project's own).
use Rattle.std.specs.Prelude.{Option, option_map}
use Rattle.fibs_fields.specs.Board.{BoardFields}
use Rattle.fibs_position.specs.Allowed.{allowed_of}
use Rattle.fibs_position.specs.DecisionValue.{DecisionValue}
use Rattle.fibs_position.specs.declared.disallowed.Disallowed.{Disallowed}
use Rattle.fibs_position.specs.declared.disallowed.Disallowed.TheVariants as D
use Rattle.fibs_game.specs.declared.refusal.Refusal.{Refusal}
use Rattle.fibs_game.specs.declared.refusal.Refusal.TheVariants as R

abbrev pub refusal_of : Disallowed → Refusal
refusal_of D.NotYours = R.NotYours
refusal_of D.WrongKind = R.WrongKind
refusal_of D.IllegalPlay = R.IllegalPlay

-- why a board does not allow a decision, if it does not
abbrev pub allows : BoardFields → DecisionValue → Option Refusal
allows b d = option_map refusal_of (allowed_of b d)
