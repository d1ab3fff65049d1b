use Rattle.std.proofs.Common.{◌∙◌, ap}
use Rattle.std.specs.Option.{option_map}
use Rattle.fibs_messages.specs.Directory.{entry_of}
use Rattle.fibs_messages.specs.Directory.View.{player_value}
use Rattle.fibs_messages.proofs.DirectoryLemmas.Maps.{lent_value, entry-lookup}
use Rattle.fibs_messages.proofs.directory.directory.Directory.get.Goals as goal

pub returns : goal.returns
returns c =
    lent_value c.get.result ∙ ap (option_map player_value) c.get.ensures.value
    ∙ entry-lookup c.args.name.now c.self.inside.players.entries c.self.invariant.0
    ∙ ap (entry_of c.args.name.now) c.self.view_is
