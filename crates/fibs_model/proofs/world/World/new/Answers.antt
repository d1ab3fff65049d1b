use Rattle.std.proofs.Common.{map, refl, ap, arith}
use Rattle.std.specs.Prelude.{is_ok}
use Rattle.fibs_fields.specs.StoredBoard.{fields_of}
use Rattle.fibs_commands.specs.LoginOf.{login_of, name_of, password_of}
use Rattle.fibs_model.specs.EntryOf.{entry_of}
use Rattle.fibs_model.specs.LinksOf.{link_of}
use Rattle.fibs_model.specs.World.{start}
use Rattle.fibs_model.proofs.Likeness.Beginning.{new_stands, new_after, refused}
use Rattle.fibs_model.proofs.world.World.new.Goals as goal

pub invariant_of-result : goal.invariant_of-result
invariant_of-result c = record {
  known = omega arith;
  login = login_of c.args.login;
  world = start (fields_of c.args.board);
  stands = new_stands _ (login_of c.args.login) (fields_of c.args.board) c.in-Ok.ensures.begins.0
      c.in-Ok.ensures.begins.1 (ap (map link_of) c.new-in-Ok-2.ensures.items)
      (ap (map entry_of) c.new-in-Ok-3.ensures.items) refl c.new-in-Ok.ensures;
}

pub returns-in-Err-clause-refusal : goal.returns-in-Err-clause-refusal
returns-in-Err-clause-refusal c =
    refused c.good_is_exact.ensures c.new.result (fields_of c.args.board) _ c.in-Err.is c.new.ensures.good

pub returns-in-Ok-clause-stands : goal.returns-in-Ok-clause-stands
returns-in-Ok-clause-stands c =
    new_after _ (name_of c.args.login) (password_of c.args.login) (fields_of c.args.board)
    (record { is_user = c.args.login.user; is_secret = c.args.login.secret })
    (c.new.ensures.good.0 (ap is_ok c.in-Ok.is))
    (new_stands _ (login_of c.args.login) (fields_of c.args.board) c.in-Ok.ensures.begins.0 c.in-Ok.ensures.begins.1
    (ap (map link_of) c.new-in-Ok-2.ensures.items) (ap (map entry_of) c.new-in-Ok-3.ensures.items) refl
    c.new-in-Ok.ensures)
