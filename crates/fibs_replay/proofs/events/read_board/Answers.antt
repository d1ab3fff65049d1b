use Rattle.std.proofs.Common.{◌∙◌, ap, option_map}
use Rattle.fibs_fields.specs.StoredBoard.{fields_of}
use Rattle.fibs_replay.proofs.ScriptLemmas.EventTexts.{boards_are_exact, board_is_read, board_is_said, board_is_none}
use Rattle.fibs_replay.proofs.events.read_board.Goals as goal

pub returns-clause-value : goal.returns-clause-value
returns-clause-value c =
    ap (option_map fields_of) c.ok.ensures.value
    ∙ board_is_read (boards_are_exact c.reading_is_exact.ensures c.each_line_has_one_reading.ensures
    c.spellings_are_lines.ensures.begins)
    c.args.line.now c.read.result c.read.ensures.found c.read.ensures.only

pub returns-clause-some : goal.returns-clause-some
returns-clause-some c = board_is_said c.args.line.now c.read.result c.ok.result c.ok.ensures.value c.read.ensures.found

pub returns-clause-none : goal.returns-clause-none
returns-clause-none c = board_is_none c.args.line.now c.read.result c.ok.result c.ok.ensures.value c.read.ensures.only
