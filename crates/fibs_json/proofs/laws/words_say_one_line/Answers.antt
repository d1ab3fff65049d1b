use Rattle.fibs_json.proofs.ToldLemmas.{words_say_one}
use Rattle.fibs_json.proofs.laws.words_say_one_line.Goals as goal

pub returns : goal.returns
returns c = words_say_one
