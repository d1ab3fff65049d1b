use Rattle.std.proofs.Common.{◌≢◌, ◌↔◌, IsTrue, rules}
use Rattle.fibs_advice.proofs.SituationLemmas.{kept_if_changed}
use Rattle.fibs_advice.proofs.situation.Situation.keeps_name.Goals as goal

pub returns-in_default : goal.returns-in_default
returns-in_default c =
    let changed : IsTrue c.ne.result ↔ (c.args.after ≢ c.args.self.now.standing) = search rules in
    kept_if_changed c.args.told c.args.self.now.standing c.args.after c.ne.result c.in_default.not-Begins
    c.in_default.not-Resumes c.in_default.not-Invited changed
