use Rattle.std.proofs.Common.{◌≡◌, ◌<◌, ◌+◌, ◌++◌, ℕ, List, ◌∷◌, length, get_or, drop, drop-cons, arith, suc, sym, ap, ◌∙◌, append_assoc}
use Rattle.std.proofs.KnownBytes.{Appends-trans, Keeps-trans}
use Rattle.fibs_commands.specs.TextOf.{text_of}
use Rattle.arrayvec.specs.ArrayString.{ArrayString as CommandText}
use Rattle.fibs_session.specs.History.Machine.{on_wire, wire_of}
use Rattle.fibs_session.specs.Calls.SessionOf.{texts_of}
use Rattle.fibs_engine.specs.Writing.{Broken, Wrote}
use Rattle.fibs_connect.proofs.TurnLemmas.Faults.{broken_on}
use Rattle.fibs_connect.proofs.TurnLemmas.Wrote.{wrote_more, wrote_front}
use Rattle.fibs_connect.proofs.turns.sending.send_commands.Goals as goal

-- the next command comes first in what is left
next : (i : ℕ) (x : CommandText) (commands : List CommandText) (part : List ℕ) → i < length commands
    → x ≡ get_or commands i x → wire_of (texts_of commands) ≡ part ++ wire_of (texts_of (drop i commands))
    → wire_of (texts_of commands) ≡ (part ++ on_wire (text_of x)) ++ wire_of (texts_of (drop (i + 1) commands))
next i x commands part h is e =
    e ∙ ap (λ l. part ++ wire_of (texts_of l))
    (drop-cons commands i x h ∙ ap (λ y. y ∷ drop (suc i) commands) (sym is)
    ∙ ap (λ k. x ∷ drop k commands) {x = suc i} {y = i + 1} (omega arith))
    ∙ sym (append_assoc part (on_wire (text_of x)) (wire_of (texts_of (drop (i + 1) commands))))

pub returns-in_err-send_command-clause-wrote : goal.returns-in_err-send_command-clause-wrote
returns-in_err-send_command-clause-wrote g c =
    let before = g.S.Write.contents c.args.stream.now in
    let now = g.S.Write.contents c.send_command.new.stream in
    let part = c.loop-command.invariant.0 in
    let x = c.command-item.result in
    let i = c.loop-command.command-index in
    let rest = wire_of (texts_of (drop (i + 1) c.args.commands.now)) in
    let all = next i x c.args.commands.now part c.loop-command-test.true c.command-item.is c.loop-command.invariant.1 in
    let w = wrote_front _ _ (part ++ on_wire (text_of x)) rest
    (wrote_more Broken _ _ _ part (on_wire (text_of x)) c.loop-command.invariant.2
    c.in_err-send_command.ensures.wrote) in
    broken_on (λ p. Wrote p before now (wire_of
    (texts_of c.args.commands.now))) c.from_residual.result _ c.from_residual.ensures.1
    (w.0, w.1, w.2, all ∙ w.3, w.4)

pub loop-command-preserved : goal.loop-command-preserved
loop-command-preserved g c =
    let part = c.loop-command.invariant.0 in
    let x = c.command-item.result in
    let i = c.loop-command.command-index in (
      part ++ on_wire (text_of x),
      next i x c.args.commands.now part c.loop-command-test.true c.command-item.is c.loop-command.invariant.1,
      Appends-trans _ _ _ part (on_wire (text_of x)) c.loop-command.invariant.2 c.in_ok-send_command.ensures.wrote,
      Keeps-trans _ _ _ c.loop-command.invariant.3 c.send_command.ensures.apart,
    )
