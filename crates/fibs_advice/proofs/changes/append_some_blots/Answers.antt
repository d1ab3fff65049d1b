use Rattle.std.proofs.Common.{codes}
use Rattle.fibs_advice.specs.Hits.{listed}
use Rattle.fibs_advice.proofs.PlacesLemmas.{appended-three}
use Rattle.fibs_advice.proofs.changes.append_some_blots.Goals as goal

pub returns : goal.returns
returns c = appended-three c.extend_from_slice-2.result c.args.text.now.items _ _ _ (codes "Your blots: ")
    (listed c.args.way c.args.places.now) (codes ".\n") c.in_ok-extend_from_slice.ensures.items
    c.in_ok-append_listed.ensures c.extend_from_slice-2.ensures.items
