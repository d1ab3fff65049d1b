use Rattle.std.proofs.Common.{refl}
use Rattle.fibs_json.specs.Passing.{ObjectAt}
use Rattle.fibs_json.specs.Places.{PlacedObject}
use Rattle.fibs_json.proofs.PlaceLemmas.{heard_at, objects_stand, objects_stay}
use Rattle.fibs_json.proofs.show.ObjectsLinePrinter.append_piece.Goals as goal

pub returns : goal.returns
returns c =
    let shown = c.in_ok-append_any.ensures in (
      shown.0,
      shown.2,
      heard_at PlacedObject ObjectAt objects_stay objects_stand c.args.self.now.place c.pass.new.self
          c.args._piece.now shown.0 c.args.fed.now c.args.fed.now.line refl shown.1 c.pass.ensures,
    )
