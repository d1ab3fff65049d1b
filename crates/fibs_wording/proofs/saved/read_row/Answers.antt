use Rattle.std.proofs.Common.{codes, decimal, refl, subst, sym}
use Rattle.fibs_wording.specs.SavedLists.{IsStarred}
use Rattle.fibs_wording.proofs.WordLemmas.{five_words}
use Rattle.fibs_wording.proofs.saved.read_row.Goals as goal

pub returns : goal.returns
returns c = record {
  first = c.first_word.result.0.now;
  second = c.first_word-2.result.0.now;
  row = five_words c.args.text.now c.first_word.result.1.now c.first_word-2.result.1.now c.first_word-3.result.1.now
      c.in_ok-rest.rest.now c.first_word-4.result.1.now c.first_word.result.0.now c.first_word-2.result.0.now
      c.first_word-3.result.0.now (codes "-") c.first_word-4.result.0.now
      (decimal c.in_ok-own.own) (decimal c.in_ok-other.other)
      c.first_word.ensures c.first_word-2.ensures c.first_word-3.ensures c.in_ok-rest.ensures c.first_word-4.ensures
      c.in_ok-own.ensures c.in_ok-other.ensures (c.if-not-is_blank.ensures refl);
  named = subst (IsStarred c.first_word.result.0.now) (sym c.in_ok-name.ensures.value) c.after_stars.ensures;
  length_said = c.in_ok-length.ensures;
}
