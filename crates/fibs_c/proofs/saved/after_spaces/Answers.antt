-- The first byte that is no space ends the spaces in front.
use Rattle.std.proofs.Common.{◌≡◌, ◌==◌, take, drop, length, get_or, arith, sym, ap, ◌∙◌, length-drop}
use Rattle.std.specs.List.{prefix_len}
use Rattle.std.proofs.lemmas.List.Sums.{prefix_len_is}
use Rattle.std.proofs.Math.Seq.{drop-length, take-length}
use Rattle.fibs_fields.proofs.FieldLemmas.Spaces.{no_space_from_not_in, space_from_not_in}
use Rattle.fibs_c.proofs.saved.after_spaces.Goals as goal

pub returns-in-Some : goal.returns-in-Some
returns-in-Some c =
    let text = c.args.text.now in
    let k = c.in-Some.first in
    let is : prefix_len (λ b. b == 32) text ≡ k =
    prefix_len_is (λ b. b == 32) text k 0 (omega (arith, c.in-Some.ensures.0.high))
    (λ j l. space_from_not_in (get_or text j 0) (c.in-Some.ensures.0.before j (omega arith) l))
    (λ l. no_space_from_not_in (get_or text k 0) c.in-Some.ensures.1) in
    ap (λ n. take n (drop k text)) (sym (length-drop k text)) ∙ (take-length (drop k text)
    ∙ ap (λ n. drop n text) (sym is))

pub returns-in-None : goal.returns-in-None
returns-in-None c =
    let text = c.args.text.now in
    let is : prefix_len (λ b. b == 32) text ≡ length text =
    prefix_len_is (λ b. b == 32) text (length text) 0 (omega arith)
    (λ j l. space_from_not_in (get_or text j 0) (c.in-None.ensures j (omega arith) l)) (λ l. absurd (omega arith)) in
    sym (ap (λ n. drop n text) is ∙ drop-length text)
