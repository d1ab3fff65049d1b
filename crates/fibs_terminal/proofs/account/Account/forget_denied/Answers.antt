use Rattle.std.proofs.Common.{◌≡◌, ◌≢◌, ◌++◌, ℕ, List, MatchOption, inl, refl, subst}
use Rattle.std.proofs.lemmas.Bool.Decides.{Decides-eqb}
use Rattle.std.proofs.lemmas.Slice.Eq.{strip_prefix_is}
use Rattle.fibs_fields.specs.Split.{before}
use Rattle.fibs_terminal.specs.Saved.{denial}
use Rattle.fibs_terminal.proofs.account.Account.forget_denied.Goals as goal

pub returns-in-Some-clause-saved : goal.returns-in-Some-clause-saved
returns-in-Some-clause-saved c =
    let said = c.args.said.now in
    let rest = c.in-Some.rest.now in
    let cut = strip_prefix_is Decides-eqb said denial c.strip_prefix.result c.strip_prefix.ensures.cases in
    let is = subst
    (λ r. MatchOption r ((other : List ℕ) → said ≢ denial ++ other) (λ x. said ≡ denial ++ x.now)) c.in-Some.is cut in
    inl (before 46 (before 32 rest), (rest, is, refl), cc)
