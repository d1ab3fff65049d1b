use Rattle.std.proofs.Common.{◌≡◌, ◌∷◌, [], true, refl, subst, OnOk}
use Rattle.fibs_fields.specs.Board.{BoardFields}
use Rattle.fibs_messages.specs.Line.{ReadingValue, board_line}
use Rattle.fibs_position.specs.GoodBoard.{good}
use Rattle.fibs_position.specs.Phases.{phase_of}
use Rattle.fibs_connect.specs.Told.{phase_said}
use Rattle.fibs_connect.specs.Turns.Lines.{phase_told}
use Rattle.fibs_connect.proofs.turns.hearing.tell_game.Goals as goal

-- a reading that says a good board reports its phase
its_phase : (b : BoardFields) (r : ReadingValue) → good b ≡ true → board_line b ≡ r
    → phase_said (phase_of b) ∷ [] ≡ phase_told r
its_phase b r is says = subst (λ x. phase_said (phase_of b) ∷ [] ≡ phase_told x) says (rw is refl)

pub returns-in-Some : goal.returns-in-Some
returns-in-Some g c =
    subst (λ told. OnOk c.tell.result (g.F.Front.tells c.args.front.now told c.tell.new.self))
    (its_phase _ _ c.in-Some.game.now.is_good (rw c.in-Some.is at c.requires)) c.tell.ensures
