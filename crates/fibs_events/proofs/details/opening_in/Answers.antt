use Rattle.std.proofs.Common.{◌≡◌, ◌∙◌, ◌-◌, ◌∷◌, [], ap, arith, codes, drop, get_or, length, refl, rules, slice_index, subst, sym, take}
use Rattle.std.proofs.lemmas.Bool.Decides.{Decides-eqb}
use Rattle.std.proofs.lemmas.Slice.Eq.{strip_prefix_is}
use Rattle.fibs_fields.specs.Split.{seen}
use Rattle.fibs_events.specs.Texts.{SaysOpening, digit_of}
use Rattle.fibs_events.proofs.AnswerLemmas.{none_told, not_cut, was_cut}
use Rattle.fibs_events.proofs.DiceLemmas.{one_byte, opening_last, opening_parts, opening_rest, opening_said, three_first}
use Rattle.fibs_events.proofs.FindingLemmas.{nothing_is_something}
use Rattle.fibs_events.proofs.details.opening_in.Goals as goal
use Rattle.fibs_events.proofs.details.opening_in.Goals.{in_default-2-via-then-branch-lt1, in_default-2-via-else-branch-lt1+else-this-lt2}

pub returns : goal.returns
returns c =
    let text = c.args.text.now in
    let rest = take (length text - 3) (drop 3 text) in
    let own = c.in_ok-die.field-0 in
    let other = c.in_ok-die-2.field-0 in
    let rolled = c.in_ok-rolled.field-0.now in
    let tail = c.in_ok-strip_prefix.field-0.now in
    let first : get_or text 0 0 ≡ digit_of own = c.in_ok-die.ensures.1 in
    let second : get_or text 1 0 ≡ 44 = search rules in
    let third : get_or text 2 0 ≡ 32 = search rules in
    let last : get_or tail 0 0 ≡ digit_of other = c.in_ok-die-2.ensures.1 in
    let cut = was_cut rolled (codes "rolled ") c.strip_prefix.result c.in_ok-strip_prefix.field-0
    c.in_ok-strip_prefix.was
    (strip_prefix_is Decides-eqb rolled (codes "rolled ") c.strip_prefix.result c.strip_prefix.ensures.cases) in
    subst (λ name. SaysOpening text (own ∷ (other ∷ [])) name) (sym c.split.ensures.before)
    (opening_said text rest rolled tail own other c.in_ok-die.ensures.0 c.in_ok-die-2.ensures.0
    (three_first text (digit_of own) 44 32 c.in-44.len_at_least first second third)
    (sym c.split.ensures.after ∙ ap seen c.in_ok-rolled.was) cut
    (one_byte tail (digit_of other) c.in-len1.len_at_least c.in-len1.len_below last))

pub returns-in_err-rolled : goal.returns-in_err-rolled
returns-in_err-rolled c =
    let text = c.args.text.now in
    let rest = take (length text - 3) (drop 3 text) in
    let second : get_or text 1 0 ≡ 44 = search rules in
    let third : get_or text 2 0 ≡ 32 = search rules in
    let is = three_first text (get_or text 0 0) 44 32 c.in-44.len_at_least refl second third in
    none_told c.from_residual.result _ _ c.from_residual.ensures (λ dice name says.
    nothing_is_something (sym (ap seen c.in_err-rolled.was) ∙ c.split.ensures.after)
    (opening_parts text dice name rest (get_or text 0 0) 44 32 says is).2)

pub returns-in_err-strip_prefix : goal.returns-in_err-strip_prefix
returns-in_err-strip_prefix c =
    let text = c.args.text.now in
    let rest = take (length text - 3) (drop 3 text) in
    let second : get_or text 1 0 ≡ 44 = search rules in
    let third : get_or text 2 0 ≡ 32 = search rules in
    let is = three_first text (get_or text 0 0) 44 32 c.in-44.len_at_least refl second third in
    let rolled = c.in_ok-rolled.field-0.now in
    none_told c.from_residual-in_err-strip_prefix.result _ _ c.from_residual-in_err-strip_prefix.ensures
    (λ dice name says.
    not_cut rolled (codes "rolled ") c.strip_prefix.result c.in_err-strip_prefix.was
    (strip_prefix_is Decides-eqb rolled (codes "rolled ") c.strip_prefix.result c.strip_prefix.ensures.cases)
    (digit_of (slice_index dice 1) ∷ [])
    (opening_rest text dice name rest rolled (get_or text 0 0) says is
    (sym c.split.ensures.after ∙ ap seen c.in_ok-rolled.was)))

pub returns-in_default-2 : goal.returns-in_default-2
returns-in_default-2 c = λ dice name says.
    let text = c.args.text.now in
    let rest = take (length text - 3) (drop 3 text) in
    let second : get_or text 1 0 ≡ 44 = search rules in
    let third : get_or text 2 0 ≡ 32 = search rules in
    let is = three_first text (get_or text 0 0) 44 32 c.in-44.len_at_least refl second third in
    let rolled = c.in_ok-rolled.field-0.now in
    let tail = c.in_ok-strip_prefix.field-0.now in
    let cut = was_cut rolled (codes "rolled ") c.strip_prefix.result c.in_ok-strip_prefix.field-0
    c.in_ok-strip_prefix.was
    (strip_prefix_is Decides-eqb rolled (codes "rolled ") c.strip_prefix.result c.strip_prefix.ensures.cases) in
    let one : length tail ≡ 1 = ap length (opening_last text dice name rest rolled tail (get_or text 0 0) says is
    (sym c.split.ensures.after ∙ ap seen c.in_ok-rolled.was) cut) in
    elim c.in_default-2.branch [
      | in_default-2-via-then-branch-lt1 w ↦ grind (arith, one, w)
      | in_default-2-via-else-branch-lt1+else-this-lt2 w ↦ grind (arith, one, w)
    ]

pub returns-in_err-die-2 : goal.returns-in_err-die-2
returns-in_err-die-2 c =
    let text = c.args.text.now in
    let rest = take (length text - 3) (drop 3 text) in
    let second : get_or text 1 0 ≡ 44 = search rules in
    let third : get_or text 2 0 ≡ 32 = search rules in
    let is = three_first text (get_or text 0 0) 44 32 c.in-44.len_at_least refl second third in
    let rolled = c.in_ok-rolled.field-0.now in
    let tail = c.in_ok-strip_prefix.field-0.now in
    let cut = was_cut rolled (codes "rolled ") c.strip_prefix.result c.in_ok-strip_prefix.field-0
    c.in_ok-strip_prefix.was
    (strip_prefix_is Decides-eqb rolled (codes "rolled ") c.strip_prefix.result c.strip_prefix.ensures.cases) in
    none_told c.from_residual-in_err-die-2.result _ _ c.from_residual-in_err-die-2.ensures (λ dice name says.
    c.in_err-die-2.ensures (slice_index dice 1) says.thrown.1
    (ap (λ l. get_or l 0 0) (opening_last text dice name rest rolled tail (get_or text 0 0) says is
    (sym c.split.ensures.after ∙ ap seen c.in_ok-rolled.was) cut)))
