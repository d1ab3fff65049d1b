-- Laws of a client, for callers.
use Rattle.std.specs.Prelude.{ℕ, List, [], ◌∷◌, ◌++◌}
use Rattle.fibs_session.specs.History.Log.{Entry}
use Rattle.fibs_session.specs.History.Machine.{Talk, InputValue, noted}
use Rattle.fibs_session.specs.History.MachineLaws.{IsServers}
use Rattle.fibs_session.specs.Calls.Standing.{ClientValue, StandsAfter, StandsAfterInputs}
use Rattle.fibs_session.specs.Calls.Doing.{Does}

-- what a server notes changes nothing for a client
abbrev pub ServersEntriesAreSilent : Type 0
ServersEntriesAreSilent =
    (c : ClientValue) (t : Talk) (e : Entry) → IsServers e → StandsAfter c t → StandsAfter c (noted t (e ∷ []) [])

-- a call leaves a client after its list of inputs with the call's
abbrev pub InputsGoOn : Type 0
InputsGoOn =
    (old new : ClientValue) (i : InputValue) (send : List (List ℕ)) → Does old new i send
    → (login : List ℕ) (inputs : List InputValue) → StandsAfterInputs old login inputs
    → StandsAfterInputs new login (inputs ++ i ∷ [])
