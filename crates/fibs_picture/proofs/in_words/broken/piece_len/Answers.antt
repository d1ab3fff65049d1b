use Rattle.std.proofs.Common.{◌≡◌, ◌≤◌, ◌+◌, length, drop, ap, ◌∙◌, arith}
use Rattle.fibs_fields.specs.Split.{before}
use Rattle.fibs_picture.proofs.WordsLemmas.Breaking.{piece_low, from-place}
use Rattle.fibs_picture.proofs.in_words.broken.piece_len.Goals as goal

pub returns-clause-low : goal.returns-clause-low
returns-clause-low c =
    let low : 1 + length (before 32 (drop 1 c.args.row.now)) ≤ length c.args.row.now =
    piece_low c.args.row.now c.requires in
    let same : length c.split.result.0.now ≡ length (before 32 (drop 1 c.args.row.now)) =
    ap length c.split.ensures.before
    ∙ ap (λ t. length (before 32 t)) (from-place 1 c.args.row.now c.requires) in
    omega (arith, low, same)
