use Rattle.std.proofs.Common.{subst, sym}
use Rattle.fibs_terminal.specs.HeardMessages.{NotesSpeaker}
use Rattle.fibs_terminal.specs.KeptLists.{KeepsName}
use Rattle.fibs_terminal.specs.declared.company.Company.{Company}
use Rattle.fibs_terminal.proofs.screen.Screen.note_message.Goals as goal

pub returns-in_ok-note_speaker-in-Says-clause-speaker : goal.returns-in_ok-note_speaker-in-Says-clause-speaker
returns-in_ok-note_speaker-in-Says-clause-speaker c =
    let old = c.args.self.now.memory.here.company in
    let new = c.note_speaker.new.self in
    subst (λ m. NotesSpeaker m old new) (sym c.in-Says.is)
    (subst (λ bytes. KeepsName 256 old.spoken.items bytes new.spoken.items) c.bytes-in-Says.ensures.value
    (subst (λ (mid : Company). KeepsName 256 mid.spoken.items c.bytes-in-Says.result.now new.spoken.items)
    c.in_ok-note_message.ensures.kept c.in_ok-note_speaker-in-Says.ensures.spoken))

pub returns-in_ok-note_speaker-in-YouSay-clause-speaker : goal.returns-in_ok-note_speaker-in-YouSay-clause-speaker
returns-in_ok-note_speaker-in-YouSay-clause-speaker c =
    let old = c.args.self.now.memory.here.company in
    let new = c.note_speaker-in-YouSay.new.self in
    subst (λ m. NotesSpeaker m old new) (sym c.in-YouSay.is)
    (subst (λ bytes. KeepsName 256 old.spoken.items bytes new.spoken.items) c.bytes-in-YouSay.ensures.value
    (subst (λ (mid : Company). KeepsName 256 mid.spoken.items c.bytes-in-YouSay.result.now new.spoken.items)
    c.in_ok-note_message.ensures.kept c.in_ok-note_speaker-in-YouSay.ensures.spoken))
