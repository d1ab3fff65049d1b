use Rattle.std.proofs.Common.{◌≡◌, ◌++◌, ◌∷◌, ◌∙◌, [], List, ℕ, ap, codes, decimal}
use Rattle.fibs_engine.proofs.OkLemmas.{on_ok_weaker}
use Rattle.fibs_model.specs.RefusalNames.{refusal_number, refusal_name}
use Rattle.fibs_json.proofs.ObjectLemmas.{first_member, next_member}
use Rattle.fibs_json.specs.Json.{Member, member, more_member, more_members, string, whole}
use Rattle.fibs_json.specs.Lines.{opening}
use Rattle.fibs_cli.proofs.LogLemmas.{closed}
use Rattle.fibs_cli.proofs.objects.endings.append_refused.Goals as goal

pub returns : goal.returns
returns c =
    let old = c.args.text.now.items in
    let why = c.args.why in
    let line : List ℕ =
    codes "refused " ++ (decimal c.args.done ++ 32 ∷ (decimal (refusal_number why) ++ 32 ∷ refusal_name why)) in
    let is : c.without_end.result.now ≡ line =
    c.without_end.ensures line (c.as_slice.ensures.value ∙ c.refused_line.ensures) in
    let done : Member = member (codes "done") (whole c.args.done) in
    let number : Member = member (codes "number") (whole (refusal_number why)) in
    let reason : Member = member (codes "reason") (string (refusal_name why)) in
    let one = c.append_front.new.text.items in
    let two = c.append_member.new.text.items in
    let three = c.append_member-2.new.text.items in
    let four = c.append_member-3.new.text.items in
    let first = first_member one two done c.in_ok-append_member.ensures in
    let second = next_member one two three (done ∷ []) number first (c.in_ok-append_member-2.ensures
    ∙ ap (λ (n : ℕ). two ++ more_member (member (codes "number") (whole n))) (cc)) in
    let third = next_member one three four (done ∷ number ∷ []) reason second (c.in_ok-append_member-3.ensures
    ∙ ap (λ (l : List ℕ). three ++ more_member (member (codes "reason") (string l))) (cc)) in
    on_ok_weaker c.append_end.result
    (λ e. closed old (codes "refused") line (more_members (done ∷ number ∷ reason ∷ [])) one four
    c.append_end.new.text.items
    (c.in_ok-append_front.ensures ∙ ap (λ (l : List ℕ). old ++ opening (codes "refused") l) is) third e)
    c.append_end.ensures
