use Rattle.std.proofs.Common.{◌++◌, ◌∷◌, [], arith, ap, inr, refl, ◌∙◌}
use Rattle.fibs_terminal.specs.declared.company.Company.{Company}
use Rattle.fibs_terminal.proofs.KeptListLemmas.{last_pushed, last_room}
use Rattle.fibs_terminal.proofs.company.Company.note_speaker.Goals.{then-len-ge-MOST_SPOKEN, else-len-ge-MOST_SPOKEN}
use Rattle.fibs_terminal.proofs.company.Company.note_speaker.Goals as goal

pub returns-clause-spoken : goal.returns-clause-spoken
returns-clause-spoken c =
    let name = c.in_ok-name.name in
    let spoken = c.args.self.now.spoken in
    let same = spoken.ok.0 in
    inr (
      c.if-has_spoken.ensures.silent refl,
      record {
        kept = name;
        same = c.in_ok-name.ensures.items;
        last = λ few. c.in_ok-push.ensures.items ∙ elim c.if-len-ge-MOST_SPOKEN.branch [
          | then-len-ge-MOST_SPOKEN w ↦ ap (λ (s : Company). s.spoken.items ++ name ∷ []) w.self-is
              ∙ last_pushed 256 spoken.items name w.remove.new.self.items w.remove.ensures.items (omega arith)
              (omega (arith, same, c.len.ensures, w.if-len-ge-MOST_SPOKEN.true)) few
          | else-len-ge-MOST_SPOKEN w ↦ ap (λ (s : Company). s.spoken.items ++ name ∷ []) w.self-is
              ∙ last_room 256 spoken.items name (omega (arith, same, c.len.ensures, w.if-len-ge-MOST_SPOKEN.false))
        ];
      },
    )
