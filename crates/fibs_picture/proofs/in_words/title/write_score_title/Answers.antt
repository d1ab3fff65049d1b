use Rattle.std.proofs.Common.{◌++◌, List, ℕ, codes, subst, ap, append_assoc, w32}
use Rattle.std.specs.Prelude.{ℤ, OnOk}
use Rattle.std.specs.Fmt.{signed_decimal}
use Rattle.std.specs.Int.{cast_signed, cast_unsigned}
use Rattle.std.specs.Io.KnownBytes.{Appends}
use Rattle.std.proofs.lemmas.Int.{to_z-of_z}
use Rattle.fibs_picture.specs.InWords.Titles.{length_title, score_title}
use Rattle.fibs_picture.proofs.WordsLemmas.Growing.{written-after}
use Rattle.fibs_picture.proofs.in_words.title.write_score_title.Goals as goal

-- the opponent's points, and the length of the match
abbrev rest : ℤ → ℤ → List ℕ
rest other match = signed_decimal other ++ length_title match

pub returns : goal.returns
unfolding score_title
returns g c =
    let r = c.write_other_points.result in
    let before = g.W.Write.contents c.args.out.now in
    let mid = g.W.Write.contents c.write_own_points.new.out in
    let after = g.W.Write.contents c.write_other_points.new.out in
    let own = signed_decimal c.args.own in
    let other = rest c.args.other c.args.length in
    let first =
    subst (λ z. Appends before mid (codes ", " ++ (signed_decimal z ++ codes "-")))
    (to_z-of_z w32 c.args.own c.ranges.own) c.in_ok-write_own_points.ensures in
    let score =
    subst (λ z. OnOk r (Appends mid after (rest z (cast_signed w32 (cast_unsigned w32 c.args.length)))))
    (to_z-of_z w32 c.args.other c.ranges.other) c.write_other_points.ensures in
    let second =
    subst (λ z. OnOk r (Appends mid after (rest c.args.other z)))
    (to_z-of_z w32 c.args.length c.ranges.length) score in
    subst (λ t. OnOk r (Appends before after t))
    (ap (λ t. codes ", " ++ t) (append_assoc own (codes "-") other))
    (written-after r before mid after (codes ", " ++ (own ++ codes "-")) other first second)
