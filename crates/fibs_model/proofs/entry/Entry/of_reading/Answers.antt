use Rattle.std.proofs.Common.{◌≡◌, ◌++◌, sym, subst, ◌∙◌, append-nil}
use Rattle.fibs_messages.specs.Line.{reading_of}
use Rattle.fibs_session.specs.History.Hearing.{heard}
use Rattle.fibs_model.specs.EntryOf.{entries_of, roll_entries}
use Rattle.fibs_model.proofs.entry.Entry.of_reading.Goals as goal

pub returns-in-Numbered : goal.returns-in-Numbered
returns-in-Numbered c = λ before.
    subst
    (λ r. (heard c.args.conn before (reading_of r)).entries
    ≡ entries_of c.of_message.result ++ roll_entries c.args.conn (reading_of r)
    (heard c.args.conn before (reading_of r)).rolled)
    (sym c.in-Numbered.is) (sym (c.of_message.ensures before) ∙ sym (append-nil _))
