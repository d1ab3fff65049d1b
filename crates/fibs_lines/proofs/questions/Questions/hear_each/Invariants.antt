use Rattle.std.proofs.Common.{◌≡◌, take}
use Rattle.fibs_lines.specs.QuestionsSteps.{after_bytes}
use Rattle.fibs_lines.proofs.questions.Questions.hear_each.Given as goal

-- the bytes so far were heard
abbrev pub invariant-loop-byte : goal.invariant-loop-byte
invariant-loop-byte l = l.self ≡ after_bytes l.fn.self (take l.byte-index l.bytes)
