use Rattle.std.proofs.Common.{[], ◌∷◌, refl, ap, ◌∙◌}
use Rattle.fibs_session.proofs.session.Session.begin_connection.Goals as goal

pub returns-clause-fields : goal.returns-clause-fields
returns-clause-fields c = rw c.if-self.false c.fresh.ensures

pub returns-clause-handed : goal.returns-clause-handed
returns-clause-handed c =
    rw c.if-self.false (ap (λ text. text ∷ []) (c.command.ensures.text ∙ ap (λ v. v.login) c.fresh.ensures))

pub returns-clause-refusal : goal.returns-clause-refusal
returns-clause-refusal c = rw c.if-self.false refl
