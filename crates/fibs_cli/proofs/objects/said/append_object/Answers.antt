use Rattle.std.proofs.Common.{◌++◌, ◌∙◌, List, ℕ, ap}
use Rattle.fibs_connect.specs.SaidOf.{said_of}
use Rattle.fibs_json.specs.Json.{more_members}
use Rattle.fibs_json.specs.Lines.{opening}
use Rattle.fibs_cli.specs.Said.{said_kind, said_members}
use Rattle.fibs_cli.proofs.LogLemmas.{closed}
use Rattle.fibs_cli.proofs.objects.said.append_object.Goals as goal

pub returns : goal.returns
returns c = λ own is.
    let s = said_of c.args.said.now in
    let old = c.args.text.now.items in
    closed old (said_kind s) own (more_members (said_members s)) c.append_front.new.text.items
    c.append_members.new.text.items c.append_end.new.text.items
    (c.in_ok-append_front.ensures
    ∙ ap (λ (l : List ℕ). old ++ opening l c.without_end.result.now) c.kind_of.ensures
    ∙ ap (λ (l : List ℕ). old ++ opening (said_kind s) l) (c.without_end.ensures own is))
    c.in_ok-append_members.ensures c.in_ok-append_end.ensures
