use Rattle.std.proofs.Common.{List, length, map, ap, sym, subst, ◌∙◌}
use Rattle.fibs_session.specs.History.Log.{Entry}
use Rattle.fibs_model.specs.Headline.{AllAtMost}
use Rattle.fibs_model.specs.EntryOf.{entry_of}
use Rattle.fibs_model.specs.WorldOf.{WorldValue}
use Rattle.fibs_model.proofs.Likeness.Running.{headline_of, log_of}
use Rattle.fibs_model.proofs.world.World.log.Goals as goal

pub returns-clause-log : goal.returns-clause-log
returns-clause-log c = λ name password first events h.
    ap (map entry_of) c.deref.ensures.value ∙ ap (λ (v : WorldValue). v.log) c.self.view_is
    ∙ log_of c.args.self.now name password first events h

pub returns-clause-numbers : goal.returns-clause-numbers
returns-clause-numbers c = λ name password first events h.
    subst (λ (l : List Entry). AllAtMost (length l) l) (sym (returns-clause-log c name password first events h))
    (headline_of c.headline.ensures.headline c.args.self.now name password first events h).numbers
