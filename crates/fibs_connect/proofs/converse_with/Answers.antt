use Rattle.std.proofs.Common.{rules}
use Rattle.fibs_connect.proofs.ConverseLemmas.Logins.{conversed_weaker, kept_behind}
use Rattle.fibs_connect.proofs.converse_with.Goals as goal

pub returns-clause-conversed : goal.returns-clause-conversed
returns-clause-conversed g c = (
  c.converse_on.ensures.ends,
  conversed_weaker c.args.name.now (g.R.Read.remaining c.args.typed.now) c.converse_on.result _ _ _ _
      (λ same. kept_behind (λ p. p.out) g.W.Write.contents _ _ _ (λ named. search rules) same)
      c.converse_on.ensures.conversed,
)
