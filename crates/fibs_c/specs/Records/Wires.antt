-- Commands as they go to the server.
use Rattle.std.specs.Prelude.{◌≡◌, ℕ, ◌≤◌, List, length, take, drop}
use Rattle.fibs_c.specs.declared.records.wire.WireRecord.{WireRecord}

-- the bytes that are to be sent
abbrev pub wire_in : WireRecord → List ℕ
wire_in w = take w.len w.bytes

-- what follows them is as it was
abbrev pub RestStays : WireRecord → WireRecord → Type 0
RestStays old new = drop new.len new.bytes ≡ drop new.len old.bytes

-- it holds just these bytes, for which it has room, and what follows them is as it was
pub record Holds (old new : WireRecord) (bytes : List ℕ) : Type 0 where
  pub few : new.len ≤ 1542
  pub len_is : new.len ≡ length bytes
  pub bytes_are : wire_in new ≡ bytes
  pub rest : RestStays old new

-- it holds nothing, and its bytes are as they were
pub record IsEmptied (old new : WireRecord) : Type 0 where
  pub len_is : new.len ≡ 0
  pub bytes_are : new.bytes ≡ old.bytes
