use Rattle.fibs_picture.proofs.WordsLemmas.Watched.{watched_words_tell}
use Rattle.fibs_picture.proofs.in_words.laws.watched_words_tell.Goals as goal

pub returns : goal.returns
returns c = watched_words_tell c.fields_have_their_ranges.ensures
