use Rattle.std.proofs.Common.{codes}
use Rattle.fibs_fields.specs.Rating.{printed_rating}
use Rattle.fibs_wording.specs.Rated.{changed_words, rated_words}
use Rattle.fibs_wording.proofs.GrowingLemmas.{three-joined}
use Rattle.fibs_wording.proofs.rated.append_rated.Goals as goal

pub returns : goal.returns
unfolding rated_words
returns c =
    three-joined c.append_changed.result c.args.text.now.items (codes "You are rated ") (printed_rating c.args.now)
    (changed_words c.args.before c.args.now c.args.experience) c.extend_from_slice.new.self.items
    c.append_rating.new.out.items c.append_changed.new.text.items c.in_ok-extend_from_slice.ensures.items
    c.in_ok-append_rating.ensures.put c.append_changed.ensures
