use Rattle.std.proofs.Common.{◌≡◌, ◌==◌, ◌&&◌, ◌++◌, List, ℕ, false, cond, codes, subst, sym, ◌∙◌}
use Rattle.std.specs.Prelude.{OnOk}
use Rattle.std.specs.Io.KnownBytes.{Appends}
use Rattle.fibs_picture.specs.InWords.Words.{pair}
use Rattle.fibs_picture.proofs.WordsLemmas.Growing.{written-after}
use Rattle.fibs_picture.proofs.in_words.dice.write_other_dice.Goals as goal

pub returns : goal.returns
returns g c =
    let r = c.write_text-3.result in
    let before = g.W.Write.contents c.args.out.now in
    let after = g.W.Write.contents c.write_text-3.new.out in
    let dice = pair c.args.first c.args.second in
    let text : List ℕ = codes ", the opponent's " ++ (dice ++ codes ".") in
    let some : ((c.args.first == 0) && (c.args.second == 0)) ≡ false = sym c.is_none.ensures ∙ c.if-is_none.false in
    subst (λ none. OnOk r (Appends before after (cond none (codes ".") text))) (sym some)
    (written-after r before _ after (codes ", the opponent's ") (dice ++ codes ".") c.in_ok-write_text.ensures
    (written-after r _ _ after dice (codes ".") c.in_ok-write_pair.ensures c.write_text-3.ensures))
