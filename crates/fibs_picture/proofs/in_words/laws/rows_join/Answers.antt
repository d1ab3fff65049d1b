use Rattle.fibs_picture.proofs.WordsLemmas.Joining.{rows_join}
use Rattle.fibs_picture.proofs.in_words.laws.rows_join.Goals as goal

pub returns : goal.returns
returns c = rows_join c.fields_have_their_ranges.ensures
