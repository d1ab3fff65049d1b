use Rattle.std.proofs.Common.{◌++◌, List, ℕ, codes, subst, ap, append_assoc, w32}
use Rattle.std.specs.Prelude.{ℤ, OnOk}
use Rattle.std.specs.Fmt.{signed_decimal}
use Rattle.std.specs.Int.{cast_signed, cast_unsigned}
use Rattle.std.specs.Io.KnownBytes.{Appends}
use Rattle.std.proofs.lemmas.Int.{to_z-of_z}
use Rattle.fibs_picture.specs.Picture.{match_length}
use Rattle.fibs_picture.specs.InWords.Words.{score_row}
use Rattle.fibs_picture.proofs.WordsLemmas.Growing.{written-after}
use Rattle.fibs_picture.proofs.in_words.game.write_scores.Goals as goal

-- the opponent's score, and the length of the match
abbrev rest : ℤ → ℤ → List ℕ
rest other match = signed_decimal other ++ (codes ", " ++ (match_length match ++ codes "."))

pub returns : goal.returns
unfolding score_row
returns g c =
    let r = c.write_other_score.result in
    let before = g.W.Write.contents c.args.out.now in
    let mid = g.W.Write.contents c.write_own_score.new.out in
    let after = g.W.Write.contents c.write_other_score.new.out in
    let own = signed_decimal c.args.own in
    let other = rest c.args.other c.args.length in
    let first =
    subst (λ z. Appends before mid (codes "Score " ++ (signed_decimal z ++ codes " to ")))
    (to_z-of_z w32 c.args.own c.ranges.own) c.in_ok-write_own_score.ensures in
    let score =
    subst (λ z. OnOk r (Appends mid after (rest z (cast_signed w32 (cast_unsigned w32 c.args.length)))))
    (to_z-of_z w32 c.args.other c.ranges.other) c.write_other_score.ensures in
    let second =
    subst (λ z. OnOk r (Appends mid after (rest c.args.other z)))
    (to_z-of_z w32 c.args.length c.ranges.length) score in
    subst (λ t. OnOk r (Appends before after t))
    (ap (λ t. codes "Score " ++ t) (append_assoc own (codes " to ") other))
    (written-after r before mid after (codes "Score " ++ (own ++ codes " to ")) other first second)
