-- What C gets of a player in one call.
use Rattle.std.specs.Prelude.{◌≡◌, ℕ, ◌<◌, ◌≤◌, ◌++◌, List, [], length, take, drop, Option, None, Some, option_map, nat_le, if◌then◌else◌}
use Rattle.fibs_messages.specs.Directory.{entry_of}
use Rattle.fibs_messages.specs.FieldOf.{field_at}
use Rattle.fibs_messages.specs.Message.{MessageValue}
use Rattle.fibs_c.specs.Records.Fields.{ToldField, told_field}
use Rattle.fibs_c.specs.declared.player.PartRecord.{PartRecord}
use Rattle.fibs_c.specs.declared.player.PlayerRecord.{PlayerRecord}

-- the bytes of a field, or none
abbrev pub bytes_told : Option ToldField → List ℕ
bytes_told None = []
bytes_told (Some v) = v.bytes

-- the number of a field, or 0
abbrev pub number_told : Option ToldField → ℕ
number_told None = 0
number_told (Some v) = v.number

-- the bytes of a field of a message
abbrev pub bytes_at : MessageValue → ℕ → List ℕ
bytes_at m n = bytes_told (option_map told_field (field_at n m.fields))

-- the number of a field of a message
abbrev pub number_at : MessageValue → ℕ → ℕ
number_at m n = number_told (option_map told_field (field_at n m.fields))

-- the bytes of all texts of a player, one after another: the three names, the two words and the tail of message 5
abbrev pub texts_in : MessageValue → List ℕ
texts_in m =
    ((((bytes_at m 1 ++ bytes_at m 2) ++ bytes_at m 3) ++ bytes_at m 10) ++ bytes_at m 11) ++ bytes_at m 12

-- a text is among the bytes behind those before it
abbrev pub IsPart : PartRecord → List ℕ → List ℕ → Type 0
IsPart p before text = (p.start ≡ length before) × (p.len ≡ length text)

-- the fields of a player
pub record IsPlayer (r : PlayerRecord) (m : MessageValue) : Type 0 where
  pub name : IsPart r.name [] (bytes_at m 1)
  pub opponent : IsPart r.opponent (bytes_at m 1) (bytes_at m 2)
  pub watching : IsPart r.watching (bytes_at m 1 ++ bytes_at m 2) (bytes_at m 3)
  pub hostname : IsPart r.hostname ((bytes_at m 1 ++ bytes_at m 2) ++ bytes_at m 3) (bytes_at m 10)
  pub client : IsPart r.client (((bytes_at m 1 ++ bytes_at m 2) ++ bytes_at m 3) ++ bytes_at m 10) (bytes_at m 11)
  pub email : IsPart r.email ((((bytes_at m 1 ++ bytes_at m 2) ++ bytes_at m 3) ++ bytes_at m 10) ++ bytes_at m 11)
      (bytes_at m 12)
  pub ready : r.ready ≡ number_at m 4
  pub away : r.away ≡ number_at m 5
  pub rating : r.rating ≡ number_at m 6
  pub experience : r.experience ≡ number_at m 7
  pub idle : r.idle ≡ number_at m 8
  pub login : r.login ≡ number_at m 9

-- a number as C has it: at most the greatest of 64 bits
abbrev pub capped : ℕ → ℕ
capped n = if nat_le n 18446744073709551615 then n else 18446744073709551615

-- the fields are given, with the bytes of their texts at the room's start, if they fit, and the rest of the room is as
-- it was; else only the room that is needed is given
pub record TellsPlayer (m : MessageValue) (r r' : PlayerRecord) (old new : List ℕ) (len status : ℕ) : Type 0 where
  pub len_is : len ≡ capped (length (texts_in m))
  pub fits : length (texts_in m) ≤ length old
      → (status ≡ 0) × (take len new ≡ texts_in m) × (drop len new ≡ drop len old) × IsPlayer r' m
  pub short : length old < length (texts_in m) → (status ≡ 503) × (new ≡ old) × (r' ≡ r)

-- a player whom a message 5 listed; or there is no player, and nothing is written
abbrev pub IsMaybePlayer : Option MessageValue → PlayerRecord → PlayerRecord → List ℕ → List ℕ → ℕ → ℕ → ℕ → Type 0
IsMaybePlayer None r r' old new len len' status = (status ≡ 508) × (r' ≡ r) × (new ≡ old) × (len' ≡ len)
IsMaybePlayer (Some m) r r' old new len len' status = TellsPlayer m r r' old new len' status

-- the player of a name, and the directory is as it was
abbrev pub IsPlayerTold : Option (List MessageValue) → Option (List MessageValue) → List ℕ → PlayerRecord
    → PlayerRecord → List ℕ → List ℕ → ℕ → ℕ → ℕ → Type 0
IsPlayerTold None d name r r' old new len len' status =
    (status ≡ 501) × (d ≡ None) × (r' ≡ r) × (new ≡ old) × (len' ≡ len)
IsPlayerTold (Some d) d' name r r' old new len len' status =
    (d' ≡ Some d) × IsMaybePlayer (entry_of name d) r r' old new len len' status
