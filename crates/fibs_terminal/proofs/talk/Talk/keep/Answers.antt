use Rattle.std.proofs.Common.{◌++◌, ◌∷◌, [], arith, ap, ◌∙◌}
use Rattle.fibs_terminal.specs.declared.talk.Talk.{Talk}
use Rattle.fibs_terminal.proofs.KeptListLemmas.{last_pushed, last_room}
use Rattle.fibs_terminal.proofs.talk.Talk.keep.Goals.{then-len-ge-MOST_ROWS, else-len-ge-MOST_ROWS}
use Rattle.fibs_terminal.proofs.talk.Talk.keep.Goals as goal

pub returns-clause-rows : goal.returns-clause-rows
returns-clause-rows c =
    let row = c.in_ok-row.row in
    let rows = c.args.self.now.rows in
    let same = rows.ok.0 in
    record {
      kept = row;
      same = c.in_ok-row.ensures.items;
      last = λ few. c.in_ok-push.ensures.items ∙ elim c.if-len-ge-MOST_ROWS.branch [
        | then-len-ge-MOST_ROWS w ↦ ap (λ (s : Talk). s.rows.items ++ row ∷ []) w.self-is
            ∙ last_pushed 20 rows.items row w.remove.new.self.items w.remove.ensures.items (omega arith)
            (omega (arith, same, c.len.ensures, w.if-len-ge-MOST_ROWS.true)) few
        | else-len-ge-MOST_ROWS w ↦ ap (λ (s : Talk). s.rows.items ++ row ∷ []) w.self-is
            ∙ last_room 20 rows.items row (omega (arith, same, c.len.ensures, w.if-len-ge-MOST_ROWS.false))
      ];
    }
