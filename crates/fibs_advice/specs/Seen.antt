-- What a text of the server says of a game that the user watches, as a terminal reads it.
use Rattle.std.specs.Prelude.{◌&&◌, ◌||◌, ℕ, Bool, not, List, codes, nat_eq}
use Rattle.std.specs.List.{starts_with}
use Rattle.fibs_fields.specs.Spaces.{without_spaces}

-- a player is watched now
abbrev pub begins_watching : List ℕ → Bool
begins_watching text = starts_with nat_eq (without_spaces text) (codes "You're now watching ")

-- nobody is watched any more, or was
abbrev pub ends_watching : List ℕ → Bool
ends_watching text = not (begins_watching text)
    && (starts_with nat_eq (without_spaces text) (codes "You stop watching ")
    || starts_with nat_eq (without_spaces text) (codes "** You're not watching"))
