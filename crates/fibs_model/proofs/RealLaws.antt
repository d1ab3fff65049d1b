-- What holds of any game holds of backgammon, for every login and every good first board.
use Rattle.std.proofs.Common.{◌≡◌, ℕ, true, List, nat_lt, nat_le, arith}
use Rattle.std.proofs.lemmas.Bool.Decides.{nat_tests}
use Rattle.fibs_game.specs.Lawful.{Lawful, IsQuiet}
use Rattle.fibs_game.specs.Laws as A
use Rattle.fibs_position.specs.BoardEffect.{IsDie, is_die}
use Rattle.fibs_position.specs.Laws.{GoodIsExact}
use Rattle.fibs_commands.specs.Logins.{IsLogin, login_text}
use Rattle.fibs_session.specs.Fibs.{fibs}
use Rattle.fibs_game.proofs.past.Lists.{and_both}
use Rattle.fibs_model.specs.Agrees.{AgreesHolds, OnlyLoginHolds}
use Rattle.fibs_model.specs.CanRest.{CanRestHolds, ThisWayLeadsToRest}
use Rattle.fibs_model.specs.Joint.{JointStatement}
use Rattle.fibs_model.specs.Laws.{HeadlineHolds, NothingServedIsStale}
use Rattle.fibs_game.proofs.Headline as any

-- the test of dice is true of a die
die_test : (n : ℕ) → IsDie n → is_die n ≡ true
die_test n h =
    let a = h.0 in
    let b = h.1 in
    and_both (nat_lt 0 n) (nat_le n 6) (grind (arith, nat_tests)) (grind (arith, nat_tests))

-- The laws of `fibs`, as the crates below promise them.
module _ (law : Lawful fibs) (good : GoodIsExact)
    (quiet : (name password : List ℕ) → IsLogin name password → IsQuiet fibs (login_text name password)) where
  -- the headline
  pub real_headline : HeadlineHolds
  real_headline name password first events is h =
      any.headline fibs law (login_text name password) first events (quiet name password is) ((good first).1 h)

  -- no stale line
  pub real_stale : NothingServedIsStale
  real_stale name password first events is h =
      any.stale fibs law (login_text name password) first events (quiet name password is) ((good first).1 h)

  -- the joint statement
  pub real_joint : JointStatement
  real_joint name password first events is h =
      any.joint_statement fibs law (login_text name password) first events (quiet name password is) ((good first).1 h)

  -- client and server agree
  pub real_agrees : AgreesHolds
  real_agrees name password first events is h =
      any.agrees fibs law (login_text name password) first events (quiet name password is) ((good first).1 h)

  -- what the client sent at rest before a board is shown
  pub real_only_login : OnlyLoginHolds
  real_only_login name password first events is h =
      any.only_login fibs law (login_text name password) first events (quiet name password is) ((good first).1 h)

  -- a world can come to rest
  pub real_can_rest : CanRestHolds
  real_can_rest name password first before is h may some =
      let k =
      any.can_rest fibs law (login_text name password) first before (quiet name password is) ((good first).1 h) may
      some in
      record { rest = λ d1 d2 i1 i2. k.rest d1 d2 (die_test d1 i1) (die_test d2 i2); ends = k.ends }

  -- what comes next leads it there
  pub real_way : ThisWayLeadsToRest
  real_way name password first before is h may some d1 d2 i1 i2 =
      any.way fibs law (login_text name password) first before (quiet name password is) ((good first).1 h) may some d1
      d2
      (die_test d1 i1) (die_test d2 i2)
