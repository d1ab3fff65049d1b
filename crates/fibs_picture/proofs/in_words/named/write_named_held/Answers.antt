use Rattle.std.proofs.Common.{◌++◌, codes, subst, append_assoc}
use Rattle.std.specs.Prelude.{OnOk}
use Rattle.std.specs.Io.KnownBytes.{Appends}
use Rattle.fibs_position.specs.PositionValue.{position_value}
use Rattle.fibs_picture.specs.InWords.Watched.{held_named}
use Rattle.fibs_picture.specs.InWords.Words.{numbers_of}
use Rattle.fibs_picture.specs.declared.in_words.listed.Listed.TheVariants as L
use Rattle.fibs_picture.proofs.WordsLemmas.Growing.{written-after}
use Rattle.fibs_picture.proofs.in_words.named.write_named_held.Goals as goal

pub returns : goal.returns
unfolding held_named
returns g c =
    let p = position_value c.args.position.now in
    let said = numbers_of c.args.direction p.standing.checkers L.Held in
    let player = c.args.player.now in
    let r = c.write_text-2.result in
    let before = g.W.Write.contents c.args.out.now in
    let after = g.W.Write.contents c.write_text-2.new.out in
    subst (λ t. OnOk r (Appends before after (codes "Held against " ++ t)))
    (append_assoc player (codes ": ") (said ++ codes "."))
    (written-after r before _ after (codes "Held against ") _ c.in_ok-write_text.ensures
    (written-after r _ _ after (player ++ codes ": ") (said ++ codes ".") c.in_ok-write_named.ensures
    (written-after r _ _ after said (codes ".") c.in_ok-write_numbers.ensures c.write_text-2.ensures)))
