use Rattle.std.proofs.Common.{◌++◌, ◌≡◌, ◌≤◌, ◌+◌, ◌∙◌, Some, ap, arith, codes, length, option_map, subst}
use Rattle.std.proofs.lemmas.Bool.Decides.{Decides-eqb}
use Rattle.std.proofs.lemmas.Slice.Eq.{strip_suffix_is}
use Rattle.fibs_rules.specs.PlayValue.{hops_of}
use Rattle.fibs_position.specs.DecisionValue.{decision_of, move}
use Rattle.fibs_commands.specs.CommandReading.{ReadCommand}
use Rattle.fibs_events.proofs.AnswerLemmas.{as_answered, none_told, not_answered, not_cut_off, was_cut_off}
use Rattle.fibs_events.proofs.PlayTextLemmas.{has_room, same_spelled}
use Rattle.fibs_events.proofs.details.play_in.Goals as goal

pub returns-in_err-steps : goal.returns-in_err-steps
returns-in_err-steps c =
    let text = c.args.text.now in
    none_told c.from_residual.result _ _ c.from_residual.ensures (λ steps says.
    not_cut_off text (codes " .") c.strip_suffix.result c.in_err-steps.was
    (strip_suffix_is Decides-eqb text (codes " .") c.strip_suffix.result c.strip_suffix.ensures.cases) says.0 says.1)

pub returns-in_err-ok-2 : goal.returns-in_err-ok-2
returns-in_err-ok-2 c =
    let text = c.args.text.now in
    let spelled = c.in_ok-steps.steps.now in
    let cut = was_cut_off text (codes " .") c.strip_suffix.result c.in_ok-steps.steps c.in_ok-steps.was
    (strip_suffix_is Decides-eqb text (codes " .") c.strip_suffix.result c.strip_suffix.ensures.cases) in
    let first = as_answered c.try_extend_from_slice.result c.ok.result c.in_ok-ok.field-0 _ c.ok.ensures.value
    c.in_ok-ok.was c.try_extend_from_slice.ensures.len in
    none_told c.from_residual-in_err-ok-2.result _ _ c.from_residual-in_err-ok-2.ensures (λ steps says.
    let room : 5 + length spelled ≤ 36 =
    has_room c.args.direction spelled steps (same_spelled c.args.direction text spelled steps cut says) in
    not_answered c.try_extend_from_slice-2.result c.ok-2.result c.ok-2.ensures.value c.in_err-ok-2.was
    (c.try_extend_from_slice-2.ensures.variant.1 (omega (arith, first, room, ap length c.new-command.ensures))))

pub returns-in-Move : goal.returns-in-Move
returns-in-Move c =
    let text = c.args.text.now in
    let spelled = c.in_ok-steps.steps.now in
    let cut = was_cut_off text (codes " .") c.strip_suffix.result c.in_ok-steps.steps c.in_ok-steps.was
    (strip_suffix_is Decides-eqb text (codes " .") c.strip_suffix.result c.strip_suffix.ensures.cases) in
    let first = as_answered c.try_extend_from_slice.result c.ok.result c.in_ok-ok.field-0 _ c.ok.ensures.value
    c.in_ok-ok.was c.try_extend_from_slice.ensures.ok in
    let second = as_answered c.try_extend_from_slice-2.result c.ok-2.result c.in_ok-ok-2.field-0 _
    c.ok-2.ensures.value c.in_ok-ok-2.was c.try_extend_from_slice-2.ensures.ok in
    let command : c.as_slice.result.now ≡ codes "move " ++ spelled =
    c.as_slice.ensures.value ∙ second ∙ ap (λ l. l ++ spelled) first
    ∙ ap (λ l. (l ++ codes "move ") ++ spelled) c.new-command.ensures in (
      spelled,
      cut,
      subst (λ l. ReadCommand l c.args.direction (move (hops_of c.in-Move.play))) command
          ((c.read_command.ensures.exact (move (hops_of c.in-Move.play))).0
          (ap (option_map decision_of) (c.in_ok-play.was ∙ ap Some c.in-Move.is))),
    )
