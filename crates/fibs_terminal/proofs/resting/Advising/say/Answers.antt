use Rattle.std.proofs.Common.{◌≡◌, ◌∙◌}
use Rattle.fibs_terminal.specs.Resting.{row_of}
use Rattle.fibs_terminal.proofs.SentLemmas.{SaidWhen, row_is, row_left, row_said}
use Rattle.fibs_terminal.proofs.resting.Advising.say.Goals as goal
use Rattle.fibs_terminal.proofs.resting.Advising.say.Goals.{then-says+in_ok-say_rows, else-says}

pub returns-clause-row : goal.returns-clause-row
returns-clause-row c =
    let s = c.args.page.now.settings in
    let situation = c.args.situation.now in
    let old = c.args.self.now in
    let advice = c.args.advice.now in
    let row = c.as_slice.result.now in
    let before = c.args.page.now.text.items in
    let text : c.append_advice.new.text.items ≡ row_of s.numbers situation advice =
    row_is s situation advice c.as_slice-opponent.result.now c.as_slice-inviter.result.now c.new-row.result.items
    c.append_advice.new.text.items c.as_slice-opponent.ensures.value c.as_slice-inviter.ensures.value
    c.new-row.ensures.items c.in_ok-append_advice.ensures in
    let due : SaidWhen old advice row c.says.result = record {
      asked = c.says.ensures.asked;
      unasked = c.says.ensures.unasked;
      told = c.says.ensures.told;
      owed = c.says.ensures.owed;
      another = c.says.ensures.another;
      once = c.says.ensures.once;
    } in
    elim c.if-says.branch [
      | then-says+in_ok-say_rows w ↦
          rw w.page-is
          (row_said s situation old c.says.result advice row w.as_slice-then-says.result.now before
          w.say_rows.new.page.text.items due w.if-says.true (c.as_slice.ensures.value ∙ text)
          (w.as_slice-then-says.ensures.value ∙ text) w.in_ok-say_rows.ensures.said)
      | else-says w ↦
          rw w.page-is
          (row_left s situation old c.says.result advice row before due w.if-says.false
          (c.as_slice.ensures.value ∙ text))
    ]
