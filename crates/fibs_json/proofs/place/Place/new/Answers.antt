use Rattle.std.proofs.Common.{refl}
use Rattle.fibs_json.proofs.PlaceLemmas.{place_first}
use Rattle.fibs_json.proofs.place.Place.new.Goals as goal

pub returns : goal.returns
returns c = place_first _ refl refl refl
