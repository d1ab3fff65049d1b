use Rattle.std.proofs.Common.{codes}
use Rattle.fibs_wording.specs.SavedMatches.{match_words, score_words}
use Rattle.fibs_wording.proofs.GrowingLemmas.{three-appended}
use Rattle.fibs_wording.proofs.saved.append_match.Goals as goal

pub returns : goal.returns
unfolding match_words
returns c =
    three-appended c.extend_from_slice-2.result c.args.text.now.items (codes " is here: your match (")
    (score_words c.args.own c.args.other c.args.length) (codes ") is saved") c.extend_from_slice.new.self.items
    c.append_score.new.text.items c.extend_from_slice-2.new.self.items c.in_ok-extend_from_slice.ensures.items
    c.in_ok-append_score.ensures c.extend_from_slice-2.ensures.items
