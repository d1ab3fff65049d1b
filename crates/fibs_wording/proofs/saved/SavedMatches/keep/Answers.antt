use Rattle.std.proofs.Common.{◌++◌, ◌∷◌, [], ◌∙◌, List, length, arith, ap, inr}
use Rattle.fibs_wording.specs.SavedLists.{match_of}
use Rattle.fibs_wording.specs.declared.saved.SavedMatch.{SavedMatch}
use Rattle.fibs_wording.proofs.saved.SavedMatches.keep.Goals as goal

pub returns : goal.returns
returns c =
    let kept : SavedMatch = record {
      name = c.in_ok-name.name;
      own = c.args.own;
      other = c.args.other;
      length = c.args.length;
    } in
    let matches = c.forget.new.self.matches in
    inr (
      omega (arith, matches.ok.0, c.len.ensures, c.if-len-ge-MOST_KEPT.false, ap length c.forget.ensures),
      record {
        kept = kept;
        same = ap (λ name. match_of name c.args.own c.args.other c.args.length) c.in_ok-name.ensures.items;
        last = c.in_ok-push.ensures.items ∙ ap (λ (xs : List SavedMatch). xs ++ kept ∷ []) c.forget.ensures;
      },
    )
