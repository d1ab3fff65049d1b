use Rattle.std.proofs.Common.{◌++◌, ap, ◌∙◌}
use Rattle.fibs_fields.specs.StoredBoard.{fields_of}
use Rattle.fibs_terminal.specs.WatchedKept.{watch_words}
use Rattle.fibs_terminal.proofs.FittingLemmas.{said_as}
use Rattle.fibs_terminal.proofs.drawing.watching.say_watched.Goals as goal

pub returns : goal.returns
returns c =
    let words = watch_words (fields_of c.args.board.now) in
    said_as c.say_rows.result _ _ words _ _
    (c.as_slice.ensures.value ∙ c.in_ok-append_watch.ensures ∙ ap (λ t. t ++ words) c.new-row.ensures.items)
    c.say_rows.ensures.said
