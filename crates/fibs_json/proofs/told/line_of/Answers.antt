use Rattle.fibs_json.proofs.ToldLemmas.{line_of_rest, no_rest}
use Rattle.fibs_json.proofs.told.line_of.Goals as goal

pub returns-in-Some : goal.returns-in-Some
returns-in-Some c =
    line_of_rest c.args.word.now c.in-Some.rest.now c.line_in.result c.in-Some.ensures c.line_in.ensures

pub returns-in-None : goal.returns-in-None
returns-in-None c = no_rest c.args.word.now c.in-None.ensures
