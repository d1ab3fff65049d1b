use Rattle.std.proofs.Common.{codes, decimal}
use Rattle.fibs_wording.specs.Rated.{points_words}
use Rattle.fibs_wording.proofs.GrowingLemmas.{three-appended}
use Rattle.fibs_wording.proofs.rated.append_points.Goals as goal

pub returns : goal.returns
unfolding points_words
returns c =
    three-appended c.extend_from_slice-2.result c.args.text.now.items (codes "), experience ")
    (decimal c.args.experience) (codes ".") c.extend_from_slice.new.self.items c.append_number.new.text.items
    c.extend_from_slice-2.new.self.items c.in_ok-extend_from_slice.ensures.items c.in_ok-append_number.ensures.put
    c.extend_from_slice-2.ensures.items
