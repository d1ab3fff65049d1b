use Rattle.std.proofs.Common.{◌∙◌, sym}
use Rattle.fibs_fields.specs.StoredBoard.{fields_of}
use Rattle.fibs_replay.specs.Scripts.{script_lines}
use Rattle.fibs_replay.proofs.ScriptLemmas.Scripts.{none_there, no_board_there, board_there}
use Rattle.fibs_replay.proofs.script.first_unreadable.Goals as goal

pub returns-in-None : goal.returns-in-None
returns-in-None c = none_there (script_lines c.args.script.now)
    (sym c.script_lines-lines.ensures.value ∙ c.in-None.ensures.steps.0)

pub returns-in-None-read_board : goal.returns-in-None-read_board
returns-in-None-read_board c =
    no_board_there (script_lines c.args.script.now) c.next.new.self c.in-Some.first.now
    (sym c.script_lines-lines.ensures.value ∙ c.in-Some.ensures.steps) c.in-None-read_board.ensures.none

pub returns-in-Some-read_board : goal.returns-in-Some-read_board
returns-in-Some-read_board c =
    board_there c.first_no_event.result (script_lines c.args.script.now) c.next.new.self c.in-Some.first.now
    (fields_of c.in-Some-read_board.field-0)
    (sym c.script_lines-lines.ensures.value ∙ c.in-Some.ensures.steps) c.in-Some-read_board.ensures.some
    c.first_no_event.ensures
