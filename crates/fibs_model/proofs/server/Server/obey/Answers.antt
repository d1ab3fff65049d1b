use Rattle.std.proofs.Common.{ap}
use Rattle.std.specs.Prelude.{option_map}
use Rattle.fibs_fields.specs.StoredBoard.{fields_of}
use Rattle.fibs_model.proofs.server.Server.obey.Goals as goal

pub unwrap-self-inside-requires : goal.unwrap-self-inside-requires
unwrap-self-inside-requires c =
    c.of.ensures.good.1 (c.effect_is_good.ensures _ _ _ _
    ((c.effect.ensures.carried _).0 (ap (option_map fields_of) c.in-Some.is))).0
