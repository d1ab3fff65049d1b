-- The entries of a `Directory` as values: the abstraction that its `Model` names.
use Rattle.std.specs.Prelude.{◌≡◌, ℕ, List, ◌∷◌, [], map, Vec}
use Rattle.std.specs.List.{AllByRecursion}
use Rattle.fibs_fields.specs.Field.{NameField, WordField, TailField, FlagField, NumberField, RatingField}
use Rattle.fibs_messages.specs.Message.{MessageValue, message}
use Rattle.fibs_messages.specs.declared.directory.player.Player.{Player}

-- a player as the message 5 that listed it
abbrev pub player_value : Player → MessageValue
player_value p = message 5
    (NameField p.name.items ∷ NameField p.opponent.items ∷ NameField p.watching.items
    ∷ FlagField p.ready ∷ FlagField p.away ∷ RatingField p.rating
    ∷ NumberField p.experience ∷ NumberField p.idle ∷ NumberField p.login
    ∷ WordField p.hostname.items ∷ WordField p.client.items ∷ TailField p.email.items ∷ [])

-- the players of a map, in its order
abbrev pub players_value : {Z : Type 0} → List (Vec ℕ Z × Player) → List MessageValue
players_value es = map (λ e. player_value e.1) es

-- each player is under its own name
abbrev pub IsKeyed : {Z : Type 0} → List (Vec ℕ Z × Player) → Type 0
IsKeyed es = AllByRecursion (λ e. e.0.items ≡ e.1.name.items) es
