use Rattle.std.proofs.Common.{rules}
use Rattle.std.proofs.lemmas.Iterator.{YieldsList-from_slice}
use Rattle.std.proofs.lemmas.Iterator.Search.{find_from_yields_List}
use Rattle.fibs_wording.specs.SavedLists.{is_with}
use Rattle.fibs_wording.proofs.saved.SavedMatches.«with».Goals as goal

pub returns : goal.returns
returns c = find_from_yields_List (is_with c.args.name.now) _ _ _ c.find.ensures.ran
    (YieldsList-from_slice c.args.self.now.matches.items cc) (λ x b q k. search rules)
