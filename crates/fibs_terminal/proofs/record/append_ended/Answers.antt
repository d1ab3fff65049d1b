use Rattle.std.proofs.Common.{◌++◌, ◌∙◌, List, ℕ, ap}
use Rattle.std.proofs.lemmas.Result.{on_ok_weaker}
use Rattle.fibs_wording.specs.Matches.{unknown}
use Rattle.fibs_terminal.proofs.RecordingLemmas.{scored, unnamed, unscored}
use Rattle.fibs_terminal.proofs.record.append_ended.Goals as goal

pub returns-in_default : goal.returns-in_default
returns-in_default c = unscored c.args.ended.now c.args.now c.args.text.now.items cc

pub returns-then-is_empty : goal.returns-then-is_empty
returns-then-is_empty c = unnamed c.args.ended.now c.args.now c.args.text.now.items cc

pub returns : goal.returns
returns c = on_ok_weaker c.append_line.result
    (λ more. scored c.append_stamp.new.text.items c.in-Some.score c.args.ended.now c.args.now
    c.args.text.now.items c.append_line.new.text.items (cc) (cc)
    (λ none. c.in_ok-append_stamp.ensures none ∙ ap (λ (date : List ℕ). date ++ unknown) c.new-date.ensures.items)
    (cc)) c.append_line.ensures
