use Rattle.std.proofs.Common.{length}
use Rattle.fibs_advice.proofs.hits.+append_listed.Given as goal

abbrev pub decreases-append_listed : goal.decreases-append_listed
decreases-append_listed l = length l.places.now
