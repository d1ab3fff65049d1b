use Rattle.std.proofs.Common.{min, length, refl, sym, subst, []}
use Rattle.fibs_lines.specs.Lines.{kept_limit, rest_of}
use Rattle.fibs_lines.proofs.StreamLawProofs.{empty_stream_has_no_line}
use Rattle.fibs_engine.specs.Streams.{LinesText}
use Rattle.fibs_show.specs.Show.{ShownLine, unfinished_text}
use Rattle.fibs_show.proofs.show.TextsLinePrinter.begin.Goals as goal

pub returns-clause-prints : goal.returns-clause-prints
returns-clause-prints c = subst (λ ls. LinesText ShownLine ls []) (sym empty_stream_has_no_line.0) refl

pub returns-clause-may_end : goal.returns-clause-may_end
returns-clause-may_end c = λ _ s _. (unfinished_text (min kept_limit (length (rest_of s))), refl)
