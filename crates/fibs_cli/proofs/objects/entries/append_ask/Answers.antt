use Rattle.std.proofs.Common.{◌++◌, ◌∙◌, List, ℕ, ap, append_assoc, codes, refl}
use Rattle.fibs_engine.proofs.OkLemmas.{on_ok_weaker}
use Rattle.fibs_session.specs.Calls.SessionOf.{ask_of}
use Rattle.fibs_session.specs.History.Asked.{asked_text}
use Rattle.fibs_json.specs.Json.{member, more_member, string}
use Rattle.fibs_cli.proofs.objects.entries.append_ask.Goals as goal

pub returns : goal.returns
returns c =
    let command : List ℕ = more_member (member (codes "command") (string (asked_text (ask_of c.args.asked.now)))) in
    on_ok_weaker c.append_board.result
    (λ h. (
      command ++ h.0,
      (h.0, h.1, refl),
      h.2 ∙ ap (λ (l : List ℕ). l ++ h.0) c.in_ok-append_command.ensures
          ∙ append_assoc c.args.text.now.items command h.0,
    ))
    c.append_board.ensures
