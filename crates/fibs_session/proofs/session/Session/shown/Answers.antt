use Rattle.std.proofs.Common.{◌∙◌, ap, sym, Some, option_map}
use Rattle.fibs_position.specs.GameOf.{game_of}
use Rattle.fibs_session.proofs.Calls.SessionLaws.{shown_law}
use Rattle.fibs_session.proofs.session.Session.shown.Goals as goal

pub returns-in-None : goal.returns-in-None
returns-in-None c = λ t at. ap (option_map game_of) (sym c.in-None.is) ∙ shown_law _ t at

pub returns-in-Some : goal.returns-in-Some
returns-in-Some c = λ t at.
    ap Some c.board.ensures.value ∙ ap (option_map game_of) (sym c.in-Some.is) ∙ shown_law _ t at
