-- What is kept says what all that has come says.
use Rattle.fibs_lines.proofs.QuestionsLemmas.{answers}
use Rattle.fibs_lines.proofs.questions.Questions.is_again.Goals as goal

pub returns : goal.returns
returns c = answers c.args.self.now c.asks_now.result c.asks_now.ensures
