use Rattle.std.proofs.Common.{◌≡◌, ◌+◌, ◌-◌, length, take, drop, ap, ◌∙◌, arith, length-drop, take_all}
use lib.Seq.{paste}
use Rattle.std.proofs.lemmas.List.Edits.{take-paste}
use Rattle.fibs_model.proofs.wire.remove_front.Goals as goal

pub returns-clause-items : goal.returns-clause-items
returns-clause-items c =
    let all = c.args.bytes.now.items in
    let own = c.args.bytes.now.ok.0 in
    let count = c.args.count in
    let left = c.len-len.result - count in
    let same : left ≡ 0 + left = omega arith in
    let rest : length (drop count all) ≡ left = omega (arith, own, c.len-len.ensures, length-drop count all) in
    c.truncate.ensures.items ∙ ap (take left) c.copy_within.ensures.items
    ∙ ap (λ n. take n (paste all 0 (drop count all) left)) same
    ∙ take-paste all 0 (drop count all) left (omega arith) (omega (arith, rest))
    ∙ take_all left (drop count all) (omega (arith, rest))
