-- A client goes on: by the entries of a server, and by its own calls.
use Rattle.std.proofs.Common.{[], ◌∷◌, refl, sym, subst}
use Rattle.fibs_session.specs.Fibs.{fibs}
use Rattle.fibs_session.specs.History.Log.{Entry}
use Rattle.fibs_session.specs.History.Machine.{start, run, noted}
use Rattle.fibs_session.specs.History.MachineLaws.{IsServers, logs_in, takes, undoes}
use Rattle.fibs_session.specs.Calls.ClientLaws.{ServersEntriesAreSilent, InputsGoOn}
use Rattle.fibs_session.specs.Calls.SessionValue.{At}
use Rattle.fibs_session.specs.Calls.Standing.{StandsAfter}
use Rattle.fibs_session.proofs.History.Joins.{run_more}
use Rattle.fibs_game.proofs.past.Past.{open_append}
use Rattle.fibs_session.proofs.History.Fields.{at_silent}
use Rattle.fibs_session.proofs.History.Texts.{no_texts}

-- what a server notes

-- what a server notes leaves a client where it is
pub servers_silent : ServersEntriesAreSilent
unfolding StandsAfter
servers_silent c t e is at = (at.0, go e is)
  where
    go : (e : Entry) → IsServers e → At c.session (noted t (e ∷ []) [])
    go e (logs_in n) = at_silent c.session t at.1 (e ∷ []) [] no_texts refl ((open_append fibs) 0 t.log (e ∷ []))
        (λ d. record { no_welcome = refl; no_flags = refl; no_board = refl; no_sent = refl; no_order = refl })
    go e (takes n b d) = at_silent c.session t at.1 (e ∷ []) [] no_texts refl ((open_append fibs) 0 t.log (e ∷ []))
        (λ d. record { no_welcome = refl; no_flags = refl; no_board = refl; no_sent = refl; no_order = refl })
    go e (undoes n b d) = at_silent c.session t at.1 (e ∷ []) [] no_texts refl ((open_append fibs) 0 t.log (e ∷ []))
        (λ d. record { no_welcome = refl; no_flags = refl; no_board = refl; no_sent = refl; no_order = refl })

-- a client at a run of inputs that takes one more is at the run with it
pub inputs_go_on : InputsGoOn
inputs_go_on old new i send d login inputs at =
    subst (StandsAfter new) (sym (run_more (start login) inputs i)) (d.stands (run (start login) inputs).talk at)
