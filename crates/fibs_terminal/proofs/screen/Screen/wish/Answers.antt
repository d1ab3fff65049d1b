use Rattle.std.proofs.Common.{◌∙◌, sym}
use Rattle.fibs_terminal.specs.Leaving.{is_match_on}
use Rattle.fibs_terminal.proofs.BeginningLemmas.{asked_now, leave_warned, shown_warned}
use Rattle.fibs_terminal.proofs.screen.Screen.wish.Goals as goal

pub returns-then-is_asked_now-clause-leave : goal.returns-then-is_asked_now-clause-leave
returns-then-is_asked_now-clause-leave c =
    let asked = asked_now c.plays_for-plays.result c.args.self.now.memory.here.is_warned c.in_ok-wish.wish
    c.begins-begins.result (sym c.is_asked_now.ensures ∙ c.if-is_asked_now.true) in
    leave_warned (is_match_on c.args.self.now.memory) c.args.self.now.memory.here.table.leave
    c.wish_leaving.new.self.memory.here.table.leave c.wish_leaving.new.line.items c.in_ok-wish.wish asked.says
    c.in_ok-wish.ensures.leave

pub returns-then-is_asked_now-clause-shows : goal.returns-then-is_asked_now-clause-shows
returns-then-is_asked_now-clause-shows c =
    let asked = asked_now c.plays_for-plays.result c.args.self.now.memory.here.is_warned c.in_ok-wish.wish
    c.begins-begins.result (sym c.is_asked_now.ensures ∙ c.if-is_asked_now.true) in
    shown_warned c.args.client.now c.args.self.now.page.settings.numbers
    c.args.self.now.memory.here.situation.standing c.args.line.now.items c.as_slice.result.now
    c.wish_leaving.new.line.items c.in_ok-wish.wish c.begins-begins.result c.begins-begins.ensures
    c.as_slice.ensures.value asked.begins_now c.in_ok-wish.ensures.shows
