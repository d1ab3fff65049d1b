use Rattle.std.proofs.Common.{◌∙◌, sym}
use Rattle.fibs_terminal.proofs.AboveLemmas.{it_stands}
use Rattle.fibs_terminal.proofs.drawing.above.Above.stand_watched.Goals as goal

pub returns-in-Some-clause-stands : goal.returns-in-Some-clause-stands
returns-in-Some-clause-stands c =
    let wants = c.is_wanted.ensures.words c.if-is_wanted.true in
    let drawn = c.in_ok-append_watched.ensures.drawn wants in
    let stands = it_stands _ _ _ _ _ _ _ _ _ _ _ _ c.new-picture.ensures.items drawn c.as_slice.ensures.value
    c.in-Some.ensures.some c.as_slice-in-Some.ensures.value c.in_ok-append_placed.ensures in
    (sym c.is_wanted.ensures.wanted ∙ c.if-is_wanted.true, stands)
