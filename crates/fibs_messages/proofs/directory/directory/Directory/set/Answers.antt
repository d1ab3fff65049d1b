use Rattle.std.proofs.Common.{◌∙◌}
use Rattle.fibs_messages.specs.Message.{message, who_info_fields}
use Rattle.fibs_messages.specs.Directory.{directory_limit}
use Rattle.fibs_messages.proofs.DirectoryLemmas.Maps.{set_values, set_holds}
use Rattle.fibs_messages.proofs.directory.directory.Directory.set.Goals as goal

pub invariant_of-self-2 : goal.invariant_of-self-2
invariant_of-self-2 c =
    set_holds c.self.inside.players.entries
    c.insert.new.self.entries c.in_ok-name.name c.in_ok-player.player (message 5 (who_info_fields c.args.info.now))
    c.self.invariant.0 (c.in_ok-name.ensures.items ∙ c.bytes.ensures.value) c.in_ok-player.ensures
    c.in_ok-insert.ensures.entries
    directory_limit c.args.self.now c.self.view_is c.self.invariant.1 c.requires

pub returns-clause-set : goal.returns-clause-set
returns-clause-set c =
    set_values c.self.inside.players.entries
    c.insert.new.self.entries c.in_ok-name.name c.in_ok-player.player (message 5 (who_info_fields c.args.info.now))
    c.self.invariant.0 (c.in_ok-name.ensures.items ∙ c.bytes.ensures.value) c.in_ok-player.ensures
    c.in_ok-insert.ensures.entries
    c.args.self.now c.self.view_is
