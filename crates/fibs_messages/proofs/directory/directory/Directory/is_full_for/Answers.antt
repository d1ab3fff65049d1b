use Rattle.std.proofs.Common.{arith}
use Rattle.fibs_messages.specs.Directory.{directory_limit}
use Rattle.fibs_messages.proofs.DirectoryLemmas.Maps.{full_at}
use Rattle.fibs_messages.proofs.directory.directory.Directory.is_full_for.Goals as goal

pub returns-then-len-ge-MOST_PLAYERS : goal.returns-then-len-ge-MOST_PLAYERS
returns-then-len-ge-MOST_PLAYERS c =
    full_at directory_limit
    c.args.name.now c.self.inside.players.entries c.args.self.now c.self.invariant.0 c.self.view_is
    (omega (arith, c.len.ensures.value, c.if-len-ge-MOST_PLAYERS.true))
    (omega (arith, c.len.ensures.value, c.len.ensures.limit)) c.contains_key.result c.contains_key.ensures
