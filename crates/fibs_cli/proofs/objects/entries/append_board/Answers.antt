use Rattle.std.proofs.Common.{codes, refl}
use Rattle.fibs_engine.proofs.OkLemmas.{on_ok_weaker}
use Rattle.fibs_json.specs.Json.{more_value}
use Rattle.fibs_cli.proofs.objects.entries.append_board.Goals as goal

pub returns : goal.returns
returns c =
    on_ok_weaker c.append_board_member.result
    (λ h. (more_value (codes "board") h.0, (h.0, h.1, refl), h.2))
    c.append_board_member.ensures
