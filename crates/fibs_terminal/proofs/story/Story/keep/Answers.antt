use Rattle.std.proofs.Common.{◌++◌, ◌∷◌, [], arith, ap, ◌∙◌}
use Rattle.fibs_terminal.specs.declared.story.Story.{Story}
use Rattle.fibs_terminal.proofs.KeptListLemmas.{last_pushed, last_room}
use Rattle.fibs_terminal.proofs.story.Story.keep.Goals.{then-len-ge-MOST_KEPT, else-len-ge-MOST_KEPT}
use Rattle.fibs_terminal.proofs.story.Story.keep.Goals as goal

pub returns-clause-kept : goal.returns-clause-kept
returns-clause-kept c =
    let turn = c.args.turn in
    let turns = c.args.self.now.turns in
    let same = turns.ok.0 in
    record {
      last = λ few. c.in_ok-push.ensures.items ∙ elim c.if-len-ge-MOST_KEPT.branch [
        | then-len-ge-MOST_KEPT w ↦ ap (λ (s : Story). s.turns.items ++ turn ∷ []) w.self-is
            ∙ last_pushed 500 turns.items turn w.remove.new.self.items w.remove.ensures.items (omega arith)
            (omega (arith, same, c.len.ensures, w.if-len-ge-MOST_KEPT.true)) few
        | else-len-ge-MOST_KEPT w ↦ ap (λ (s : Story). s.turns.items ++ turn ∷ []) w.self-is
            ∙ last_room 500 turns.items turn (omega (arith, same, c.len.ensures, w.if-len-ge-MOST_KEPT.false))
      ];
    }
