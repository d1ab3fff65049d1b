use Rattle.std.proofs.Common.{◌≡◌, ◌+◌, ◌-◌, ℕ, take, drop, ap, ◌∙◌, arith}
use Rattle.fibs_picture.specs.InWords.Breaking.{piece_len}
use Rattle.fibs_picture.proofs.WordsLemmas.Breaking.{row-next, ok-ended, from-place}
use Rattle.fibs_picture.proofs.in_words.broken.append_broken.Goals as goal

-- what is between two places
between : (at n : ℕ) → (at + n) - at ≡ n
between at n = omega arith

pub loop-at-preserved : goal.loop-at-preserved
loop-at-preserved c =
    let rest = drop c.loop-at.at c.args.row.now in
    row-next c.args.row.now c.args.columns c.loop-at.at c.loop-at.column c.piece_len.result c.in_ok-column.column
    (take ((c.loop-at.at + c.piece_len.result) - c.loop-at.at) rest) _ _ _ c.loop-at.invariant c.loop-at-test.true
    (c.piece_len.ensures.value ∙ ap piece_len (from-place c.loop-at.at c.args.row.now c.loop-at.invariant.low)) (ap (λ
    m. take m rest) (between c.loop-at.at c.piece_len.result))
    c.in_ok-column.ensures.text c.in_ok-column.ensures.column

pub returns : goal.returns
returns c =
    ok-ended c.extend_from_slice.result c.args.row.now c.args.columns c.loop-at.at c.loop-at.column _ _ _
    c.loop-at.invariant c.loop-at-test.false c.extend_from_slice.ensures.items
