use Rattle.fibs_messages.specs.Directory.{directory_limit}
use Rattle.fibs_messages.proofs.DirectoryLemmas.Maps.{removed_values, removed_holds}
use Rattle.fibs_messages.proofs.directory.directory.Directory.remove.Goals as goal

pub invariant_of-self : goal.invariant_of-self
invariant_of-self c =
    removed_holds c.args.name.now
    c.self.inside.players.entries c.shift_remove.new.self.entries c.self.invariant.0 c.shift_remove.ensures.entries
    directory_limit c.self.invariant.1

pub returns : goal.returns
returns c =
    removed_values c.args.name.now
    c.self.inside.players.entries c.shift_remove.new.self.entries c.self.invariant.0 c.shift_remove.ensures.entries
    c.args.self.now c.self.view_is
