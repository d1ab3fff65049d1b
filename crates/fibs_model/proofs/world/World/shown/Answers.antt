use Rattle.std.proofs.Common.{sym, subst}
use Rattle.fibs_session.specs.Calls.Standing.{StandsAfter}
use Rattle.fibs_commands.specs.Logins.{login_text}
use Rattle.fibs_model.specs.World.{talk_of}
use Rattle.fibs_model.specs.WorldCalls.{machine_after}
use Rattle.fibs_model.specs.WorldOf.{WorldValue}
use Rattle.fibs_model.proofs.Likeness.Stepping.{stands_for}
use Rattle.fibs_model.proofs.world.World.shown.Goals as goal

pub returns : goal.returns
returns c = λ name password first events h.
    let t = talk_of (login_text name password) (machine_after name password first events) in
    c.shown.ensures t (subst (λ (v : WorldValue). StandsAfter v.client t) (sym c.self.view_is)
    (stands_for c.args.self.now name password first events h).client)
