use Rattle.std.proofs.Common.{◌∙◌, ap}
use Rattle.fibs_fields.specs.Split.{before}
use Rattle.fibs_picture.proofs.WordsLemmas.Breaking.{from-place}
use Rattle.fibs_picture.proofs.WordsLemmas.Saying.{row-from}
use Rattle.fibs_picture.proofs.in_words.broken.row_at.Goals as goal

pub returns : goal.returns
returns c =
    row-from c.args.at c.args.rows.now c.split.result.0.now c.requires
    (c.split.ensures.before ∙ ap (before 10) (from-place c.args.at c.args.rows.now c.requires))
