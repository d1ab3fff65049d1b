use Rattle.std.proofs.Common.{◌+◌, ◌-◌, ◌≡◌, refl, arith, length, subst}
use Rattle.fibs_lines.specs.Progress.{IsLiteralTo}
use Rattle.fibs_lines.proofs.LiteralLemmas.{literal_back, literal_window, literal_stops}
use Rattle.fibs_lines.proofs.literal.literal_to_end.Goals as goal

pub returns-then-found-ne0 : goal.returns-then-found-ne0
returns-then-found-ne0 c =
    let bytes = c.args.bytes.now in
    let last = length bytes - 32 in
    let front = literal_back bytes c.args.start last c.requires.literal (omega arith) in
    literal_stops bytes last c.others-found.result front (omega arith) c.others-found.ensures _ c.if-found-ne0.true refl

pub returns : goal.returns
returns c =
    let bytes = c.args.bytes.now in
    let last = length bytes - 32 in
    let end : last + 32 ≡ length bytes = omega arith in
    let front = literal_back bytes c.args.start last c.requires.literal (omega arith) in
    subst (IsLiteralTo bytes) end
    (literal_window bytes last c.others-found.result front (omega arith) c.others-found.ensures c.if-found-ne0.false)
