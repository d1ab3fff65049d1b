-- What is kept byte by byte says what the whole lines say.
use Rattle.fibs_lines.proofs.QuestionsLemmas.{comes}
use Rattle.fibs_lines.proofs.questions.Questions.hear.Goals as goal

pub returns : goal.returns
returns c = comes c.args.self.now c.hear_each.new.self c.args.bytes.now c.hear_each.ensures
