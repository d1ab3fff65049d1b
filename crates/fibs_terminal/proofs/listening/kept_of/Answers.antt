use Rattle.std.proofs.Common.{◌∙◌, ap, length, take}
use Rattle.std.proofs.Math.Nat.{min_comm}
use Rattle.std.proofs.lemmas.List.{take_min}
use Rattle.fibs_terminal.proofs.listening.kept_of.Goals as goal

pub returns : goal.returns
returns c =
    let said = c.args.said.now in
    ap (λ n. take n said) (c.min.ensures ∙ min_comm (length said) 80) ∙ take_min 80 said
