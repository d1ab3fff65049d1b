use Rattle.std.proofs.Common.{◌∙◌, sym}
use Rattle.fibs_terminal.specs.Fixing.{is_asked}
use Rattle.fibs_terminal.proofs.LeavingLemmas.{asked_bye, asked_leaves, known_asked, shown_asked, went_asked}
use Rattle.fibs_terminal.proofs.screen.Screen.wish_leaving.Goals as goal

pub returns-in_ok-say_leave-in-Some-clause-known : goal.returns-in_ok-say_leave-in-Some-clause-known
returns-in_ok-say_leave-in-Some-clause-known c =
    let after = c.wish_line.new.line.items in
    let wish = c.in_ok-wish.wish in
    let word = c.in-Some.leave in
    known_asked c.args.client.now c.args.self.now.page.settings.numbers
    c.args.self.now.memory.here.situation.standing c.args.line.now.items after wish word
    (asked_leaves c.is_match_on-is_on.result c.args.self.now.memory.here.table.leave c.leave_of-leave.result
    c.as_slice.result.now after wish word c.leave_of-leave.ensures c.as_slice.ensures.value
    (sym c.in-Some.is ∙ c.asked_first-asked.ensures))
    c.in_ok-wish.ensures.asks c.in_ok-wish.ensures.known

pub returns-in_ok-say_leave-in-Some-clause-went : goal.returns-in_ok-say_leave-in-Some-clause-went
returns-in_ok-say_leave-in-Some-clause-went c =
    let after = c.wish_line.new.line.items in
    let wish = c.in_ok-wish.wish in
    let word = c.in-Some.leave in
    went_asked c.args.client.now c.args.self.now.memory.here.looking.trial c.args.line.now.items after wish word
    (asked_leaves c.is_match_on-is_on.result c.args.self.now.memory.here.table.leave c.leave_of-leave.result
    c.as_slice.result.now after wish word c.leave_of-leave.ensures c.as_slice.ensures.value
    (sym c.in-Some.is ∙ c.asked_first-asked.ensures))
    c.in_ok-wish.ensures.went

pub returns-in_ok-say_leave-in-Some-clause-shows : goal.returns-in_ok-say_leave-in-Some-clause-shows
returns-in_ok-say_leave-in-Some-clause-shows c =
    let after = c.wish_line.new.line.items in
    let wish = c.in_ok-wish.wish in
    let word = c.in-Some.leave in
    shown_asked c.args.client.now c.args.self.now.page.settings.numbers
    c.args.self.now.memory.here.situation.standing c.args.line.now.items after wish word
    (asked_leaves c.is_match_on-is_on.result c.args.self.now.memory.here.table.leave c.leave_of-leave.result
    c.as_slice.result.now after wish word c.leave_of-leave.ensures c.as_slice.ensures.value
    (sym c.in-Some.is ∙ c.asked_first-asked.ensures))
    c.in_ok-wish.ensures.shows

pub returns-in_ok-say_leave-in-Some-clause-fix : goal.returns-in_ok-say_leave-in-Some-clause-fix
returns-in_ok-say_leave-in-Some-clause-fix c =
    asked_bye c.is_match_on-is_on.result c.args.self.now.memory.here.table.leave c.leave_of-leave.result
    c.in-Some.leave (is_asked c.hear_line.new.self.step) (sym c.asked_first-asked.ensures ∙ c.in-Some.is)
    (λ other. c.hear_line.ensures.over (c.is_bye.ensures ∙ other))
