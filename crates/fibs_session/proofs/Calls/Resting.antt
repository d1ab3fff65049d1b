-- A `&mut` whose last value is known rests there.
use mathlib.Core.Option.{none}
use seplogic.Ra.Ura.{Ura}
use base.Logic.{ent, ex_i}
use base.Fml.{fres}
use types.Logic.{Logic, sem}
use denote.RattleType.{RattleType}
use denote.Ref.{MutBor}
use denote.Follow.{such_by, follows_by, follows_if}
use Rattle.std.specs.Prelude.{⊤}
use Rattle.std.specs.Io.BufRead.{Rests}

-- what the name ends as is what the borrow comes to rest at
pub rests_at : {M : Type 1}
    {𝓤 : Ura M} (𝓛 : Logic 𝓤) (R : RattleType) (s : MutBor R.Denot) (P : R.Denot → Type 0) (v : R.Denot) → P v
    → ent 𝓤 (sem 𝓛 (fres s.ghost_name (R.coded.code v))) (sem 𝓛 (Rests R s P))
unfolding such_by follows_by
rests_at {𝓤 = 𝓤} 𝓛 R s P v p =
    ex_i 𝓤 (λ (y : (f : (R.Denot → R.Denot) × R.Denot) × ((z : R.Denot) → ⊤) × P f.1). sem 𝓛
    (follows_if R R s.ghost_name none y.0.0 y.0.1)) ((λ _. v, v), (λ w. tt), p)
