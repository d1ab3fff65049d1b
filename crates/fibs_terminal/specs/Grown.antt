-- What a terminal writes is added to what it has written.
use Rattle.std.specs.Prelude.{◌++◌, ℕ, List, [], Option}
use Rattle.std.specs.Io.KnownBytes.{Appends}
use Rattle.std.proofs.KnownBytes.{Appends-nil, Appends-trans}

-- some text was added
abbrev pub Grown : Option (List ℕ) → Option (List ℕ) → Type 0
Grown held now = (text : List ℕ) × Appends held now text

pub grown_nothing : (held : Option (List ℕ)) → Grown held held
grown_nothing held = ([], Appends-nil held)

pub grown_joined : (a b c : Option (List ℕ)) → Grown a b → Grown b c → Grown a c
grown_joined a b c p q = (p.0 ++ q.0, Appends-trans a b c p.0 q.0 p.1 q.1)
