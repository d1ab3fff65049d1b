use Rattle.std.proofs.Common.{refl}
use Rattle.fibs_messages.specs.Line.{text_line, reading_value, reading_of}
use Rattle.fibs_messages.proofs.LineLemmas.ReadingValues.{reading_is_exact}
use Rattle.fibs_messages.proofs.LineLemmas.Readings.{exactly, is_reading}
use Rattle.fibs_messages.proofs.line.read.Goals as goal

pub returns-in-Board-clause-only : goal.returns-in-Board-clause-only
returns-in-Board-clause-only c =
    (exactly c.args.line.now (reading_of c.read_board_line.result) (c.read_board_line.ensures)).only

pub returns-in-Board-clause-numbered : goal.returns-in-Board-clause-numbered
returns-in-Board-clause-numbered c =
    (exactly c.args.line.now (reading_of c.read_board_line.result) (c.read_board_line.ensures)).numbered

pub returns-in-Board-clause-board : goal.returns-in-Board-clause-board
returns-in-Board-clause-board c =
    (exactly c.args.line.now (reading_of c.read_board_line.result) (c.read_board_line.ensures)).board

pub returns-in-Board-clause-malformed : goal.returns-in-Board-clause-malformed
returns-in-Board-clause-malformed c =
    (exactly c.args.line.now (reading_of c.read_board_line.result) (c.read_board_line.ensures)).malformed

pub returns-in-Number-clause-found : goal.returns-in-Number-clause-found
returns-in-Number-clause-found c =
    is_reading c.args.line.now (reading_of c.read_numbered_line.result) c.in-Number.ensures.0
    c.read_numbered_line.ensures

pub returns-in-Number-clause-only : goal.returns-in-Number-clause-only
returns-in-Number-clause-only c =
    (exactly c.args.line.now (reading_of c.read_numbered_line.result)
    (is_reading c.args.line.now (reading_of c.read_numbered_line.result) c.in-Number.ensures.0
    c.read_numbered_line.ensures)).only

pub returns-in-Number-clause-numbered : goal.returns-in-Number-clause-numbered
returns-in-Number-clause-numbered c =
    (exactly c.args.line.now (reading_of c.read_numbered_line.result)
    (is_reading c.args.line.now (reading_of c.read_numbered_line.result) c.in-Number.ensures.0
    c.read_numbered_line.ensures)).numbered

pub returns-in-Number-clause-malformed : goal.returns-in-Number-clause-malformed
returns-in-Number-clause-malformed c =
    (exactly c.args.line.now (reading_of c.read_numbered_line.result)
    (is_reading c.args.line.now (reading_of c.read_numbered_line.result) c.in-Number.ensures.0
    c.read_numbered_line.ensures)).malformed

pub returns-in-Number-clause-text : goal.returns-in-Number-clause-text
returns-in-Number-clause-text c =
    (exactly c.args.line.now (reading_of c.read_numbered_line.result)
    (is_reading c.args.line.now (reading_of c.read_numbered_line.result) c.in-Number.ensures.0
    c.read_numbered_line.ensures)).text

pub returns-in-Other-clause-found : goal.returns-in-Other-clause-found
returns-in-Other-clause-found c =
    is_reading c.args.line.now (text_line c.args.line.now) c.in-Other.ensures.0 (c.in-Other.ensures.1, refl)

pub returns-in-Other-clause-only : goal.returns-in-Other-clause-only
returns-in-Other-clause-only c =
    (exactly c.args.line.now (text_line c.args.line.now)
    (is_reading c.args.line.now (text_line c.args.line.now) c.in-Other.ensures.0 (c.in-Other.ensures.1, refl))).only

pub returns-in-Other-clause-numbered : goal.returns-in-Other-clause-numbered
returns-in-Other-clause-numbered c =
    (exactly c.args.line.now (text_line c.args.line.now)
    (is_reading c.args.line.now (text_line c.args.line.now) c.in-Other.ensures.0
    (c.in-Other.ensures.1, refl))).numbered

pub returns-in-Other-clause-malformed : goal.returns-in-Other-clause-malformed
returns-in-Other-clause-malformed c =
    (exactly c.args.line.now (text_line c.args.line.now)
    (is_reading c.args.line.now (text_line c.args.line.now) c.in-Other.ensures.0
    (c.in-Other.ensures.1, refl))).malformed

pub returns-in-Other-clause-text : goal.returns-in-Other-clause-text
returns-in-Other-clause-text c =
    (exactly c.args.line.now (text_line c.args.line.now)
    (is_reading c.args.line.now (text_line c.args.line.now) c.in-Other.ensures.0 (c.in-Other.ensures.1, refl))).text

pub returns-in-Board-clause-value : goal.returns-in-Board-clause-value
returns-in-Board-clause-value c =
    (exactly c.args.line.now (reading_of c.read_board_line.result) (c.read_board_line.ensures)).only
    (reading_value c.args.line.now) (reading_is_exact c.args.line.now)

pub returns-in-Number-clause-value : goal.returns-in-Number-clause-value
returns-in-Number-clause-value c =
    (exactly c.args.line.now (reading_of c.read_numbered_line.result)
    (is_reading c.args.line.now (reading_of c.read_numbered_line.result) c.in-Number.ensures.0
    c.read_numbered_line.ensures)).only (reading_value c.args.line.now) (reading_is_exact c.args.line.now)

pub returns-in-Other-clause-value : goal.returns-in-Other-clause-value
returns-in-Other-clause-value c =
    (exactly c.args.line.now (text_line c.args.line.now)
    (is_reading c.args.line.now (text_line c.args.line.now) c.in-Other.ensures.0 (c.in-Other.ensures.1, refl))).only
    (reading_value c.args.line.now) (reading_is_exact c.args.line.now)
