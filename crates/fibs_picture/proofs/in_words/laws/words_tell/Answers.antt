use Rattle.fibs_picture.proofs.WordsLemmas.Tells.{words_tell}
use Rattle.fibs_picture.proofs.in_words.laws.words_tell.Goals as goal

pub returns : goal.returns
returns c = words_tell c.fields_have_their_ranges.ensures
