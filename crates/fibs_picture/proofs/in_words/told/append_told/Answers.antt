use Rattle.fibs_picture.proofs.WordsLemmas.Breaking.{ok-words}
use Rattle.fibs_picture.proofs.in_words.told.append_told.Goals as goal

pub returns : goal.returns
returns c =
    ok-words c.append_facts.result c.args.columns c.args.before.now c.args.told.now _ _ _
    c.in_ok-append_players.ensures c.append_facts.ensures
