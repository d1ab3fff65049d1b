use Rattle.std.proofs.Common.{◌≡◌, ◌++◌, ◌∷◌, ◌∙◌, [], List, ℕ, ap, codes, decimal}
use Rattle.fibs_engine.proofs.OkLemmas.{on_ok_weaker}
use Rattle.fibs_json.proofs.ObjectLemmas.{first_member}
use Rattle.fibs_json.specs.Json.{Member, member, more_members, whole}
use Rattle.fibs_json.specs.Lines.{opening}
use Rattle.fibs_cli.proofs.LogLemmas.{closed}
use Rattle.fibs_cli.proofs.objects.endings.append_script.Goals as goal

pub returns : goal.returns
returns c =
    let old = c.args.text.now.items in
    let line : List ℕ = codes "script " ++ decimal c.args.number in
    let is : c.without_end.result.now ≡ line = c.without_end.ensures line
    (c.as_slice.ensures.value ∙ c.unread_line.ensures) in
    let number : Member = member (codes "number") (whole c.args.number) in
    let one = c.append_front.new.text.items in
    let two = c.append_member.new.text.items in
    on_ok_weaker c.append_end.result
    (λ e. closed old (codes "script") line (more_members (number ∷ [])) one two c.append_end.new.text.items
    (c.in_ok-append_front.ensures ∙ ap (λ (l : List ℕ). old ++ opening (codes "script") l) is)
    (first_member one two number c.in_ok-append_member.ensures) e)
    c.append_end.ensures
