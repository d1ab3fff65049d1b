use Rattle.std.proofs.Common.{◌++◌, ◌≡◌, ◌∙◌, [], ap, append-nil, append_assoc, arith, codes, cond, length, min, sym, take, true≢false, true, false}
use Rattle.std.proofs.lemmas.List.{take_min}
use Rattle.fibs_fields.specs.Name.{is_name}
use Rattle.fibs_wording.proofs.GrowingLemmas.{three-appended}
use Rattle.fibs_wording.proofs.RowLemmas.{never_true}
use Rattle.fibs_wording.proofs.matches.append_none.Goals as goal
use Rattle.fibs_wording.proofs.matches.append_none.Goals.{then-is_some+in_ok-extend_from_slice-2+in_ok-extend_from_slice-3, else-is_some}

pub returns : goal.returns
returns c =
    let old = c.args.text.now.items in
    let name = c.args.name.now in
    let first = c.extend_from_slice.new.self.items in
    let whom = codes " with " ++ take 20 name in
    let shown = cond (is_name name) whom [] in
    let middle : c.if-is_some.text.items ≡ first ++ shown = elim c.if-is_some.branch [
      | then-is_some+in_ok-extend_from_slice-2+in_ok-extend_from_slice-3 w ↦
          let is : is_name name ≡ true = c.new.ensures.test.0 (sym c.is_some.ensures ∙ w.if-is_some.true) in
          let least : min (length name) 20 ≡ min 20 (length name) = omega arith in
          let taken : take w.min.result name ≡ take 20 name =
          ap (λ k. take k name) (w.min.ensures ∙ least) ∙ take_min 20 name in
          ap (λ text. text.items) w.text-is ∙ w.in_ok-extend_from_slice-3.ensures.items
          ∙ ap (λ l. l ++ take w.min.result name) w.in_ok-extend_from_slice-2.ensures.items
          ∙ append_assoc first (codes " with ") (take w.min.result name)
          ∙ ap (λ l. first ++ (codes " with " ++ l)) taken
          ∙ ap (λ b. first ++ cond b whom []) (sym is)
      | else-is_some w ↦
          let is : is_name name ≡ false = never_true (is_name name)
          (λ yes. true≢false (sym (c.new.ensures.test.1 yes) ∙ sym c.is_some.ensures ∙ w.if-is_some.false)) in
          ap (λ text. text.items) w.text-is ∙ sym (append-nil first) ∙ ap (λ b. first ++ cond b whom []) (sym is)
    ] in
    three-appended c.extend_from_slice-2.result old (codes "No match") shown (codes " is recorded.\n") first
    c.if-is_some.text.items c.extend_from_slice-2.new.self.items c.in_ok-extend_from_slice.ensures.items middle
    c.extend_from_slice-2.ensures.items
