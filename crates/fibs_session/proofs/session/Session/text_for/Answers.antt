use Rattle.std.proofs.Common.{rules}
use Rattle.fibs_session.proofs.session.Session.text_for.Goals as goal

pub returns-in_err-text-clause-refusal : goal.returns-in_err-text-clause-refusal
returns-in_err-text-clause-refusal c = search rules

pub returns-clause-refusal : goal.returns-clause-refusal
returns-clause-refusal c = search rules

pub returns-clause-handed : goal.returns-clause-handed
returns-clause-handed c = rw (← returns-clause-refusal c) (search rules)
