use Rattle.std.proofs.Common.{refl}
use Rattle.fibs_picture.specs.InWords.Tellings.{row_in}
use Rattle.fibs_picture.proofs.WordsLemmas.Breaking.{ok-row}
use Rattle.fibs_picture.proofs.in_words.told.append_row.Goals as goal

pub returns : goal.returns
returns c =
    let row = row_in c.args.told.now c.args.fact in
    ok-row c.append_one.result c.args.columns row row _ _ refl c.append_one.ensures
