-- The command of the move that a line shows.
use Rattle.std.proofs.Common.{◌≡◌, ℕ, List, Some, None, subst, sym, ◌∙◌}
use Rattle.std.specs.Prelude.{Option}
use Rattle.fibs_commands.specs.Commands.{command_of}
use Rattle.fibs_position.specs.DecisionValue.{move}
use Rattle.fibs_position.specs.declared.direction.Direction.{Direction}
use Rattle.fibs_rules.specs.Hop.{Hop}
use Rattle.fibs_rules.specs.PlayValue.{hops_of}
use Rattle.fibs_rules.specs.declared.play.Play.{Play}
use Rattle.fibs_session.specs.History.Machine.{Talk}
use Rattle.fibs_advice.specs.Spelled.{IsMove}
use Rattle.fibs_advice.specs.Spelling.{IsMeantBy, IsReadAs, steps_shown}

-- the play that is read is the one that is meant by the steps that are shown
pub move_shown : (t : Talk) (way : Direction) (line text : List ℕ) (play : Play) (shown read : Option (List Hop))
    → steps_shown way line ≡ shown → IsReadAs t shown read → read ≡ Some (hops_of play)
    → text ≡ command_of way (move (hops_of play)) → IsMove t way line text
move_shown t way line text play None read same none some is = cc
move_shown t way line text play (Some steps) read same (one, first, meant) some is = record {
  steps = steps;
  shown = same;
  play = play;
  meant = subst (IsMeantBy t steps) (same_play one (hops_of play) (sym first ∙ some)) meant;
  is = is;
}
  where
    same_play : (a b : List Hop) → Some a ≡ Some b → a ≡ b
    same_play a b is = cc
