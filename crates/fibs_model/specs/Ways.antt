-- What crosses between both ends of a connection, by the bytes that each end has written and has still to read.
use Rattle.std.specs.Prelude.{◌≡◌, ℕ, List, [], ◌∷◌, ◌++◌, Option, None, Some, IsSome}
use Rattle.std.proofs.Common.{subst}
use Rattle.std.specs.Io.KnownBytes.{Appends, Consumes}
use Rattle.fibs_model.specs.Carrying.{Crossing, connected, crossed, closed}
use Rattle.fibs_model.specs.declared.carriers.carrier.Way.TheVariants.{ToServer, ToClient}
use Rattle.fibs_model.specs.declared.carriers.sockets.Ends.{Ends}

-- One crossing. Bytes were written at one end, and read at the other.
abbrev pub Did : {E : Type 0} → (contents remaining : E → Option (List ℕ)) → Option (Ends E) → Crossing
    → Option (Ends E) → Type 0
Did contents remaining a connected b = IsSome b
Did contents remaining (Some e) (crossed ToServer xs) (Some f) =
    Appends (contents e.client) (contents f.client) xs × Consumes (remaining e.server) (remaining f.server) xs
Did contents remaining (Some e) (crossed ToClient xs) (Some f) =
    Appends (contents e.server) (contents f.server) xs × Consumes (remaining e.client) (remaining f.client) xs
Did contents remaining (Some e) (crossed way xs) None = ⊥
Did contents remaining None (crossed way xs) b = ⊥
Did contents remaining a closed b = b ≡ None

-- several, one after another
abbrev pub Went : {E : Type 0} → (contents remaining : E → Option (List ℕ)) → Option (Ends E) → List Crossing
    → Option (Ends E) → Type 0
Went contents remaining a [] b = b ≡ a
Went contents remaining a (x ∷ xs) b =
    (c : Option (Ends _)) × Did contents remaining a x c × Went contents remaining c xs b

pub went_joined : {E : Type 0} (contents remaining : E → Option (List ℕ)) (a b c : Option (Ends E))
    (xs ys : List Crossing) → Went contents remaining a xs b → Went contents remaining b ys c
    → Went contents remaining a (xs ++ ys) c
went_joined contents remaining a b c [] ys p q = subst (λ x. Went contents remaining x ys c) p q
went_joined contents remaining a b c (x ∷ xs) ys p q =
    (p.0, p.1, went_joined contents remaining p.0 b c xs ys p.2 q)
