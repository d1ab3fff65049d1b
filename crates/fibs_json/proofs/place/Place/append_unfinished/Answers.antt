use Rattle.std.proofs.Common.{◌<◌, ◌++◌, ◌∙◌, length, arith, sym, ap}
use Rattle.std.proofs.lemmas.Bool.Decides.{nat_tests}
use Rattle.fibs_json.proofs.PlaceLemmas.{ending_some, unfinished_gained}
use Rattle.fibs_json.proofs.place.Place.append_unfinished.Goals as goal

pub returns : goal.returns
returns c =
    let old = c.args.text.now.items in
    let bytes = c.args.bytes.now in
    let some : 0 < length bytes = grind (arith, nat_tests, c.is_empty.ensures, c.if-is_empty.false) in
    unfinished_gained c.args.self.now old c.append_front.new.text.items c.append_whole.new.text.items
    c.append_members.new.text.items c.extend_from_slice.new.self.items bytes c.in_ok-append_front.ensures
    c.in_ok-append_whole.ensures c.in_ok-append_members.ensures c.in_ok-extend_from_slice.ensures.items
    ∙ ap (λ l. old ++ l) (sym (ending_some c.args.self.now bytes some))
