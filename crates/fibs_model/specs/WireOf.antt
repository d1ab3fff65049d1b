-- A wire of the program, one way, as the bytes on it.
use Rattle.std.specs.Prelude.{◌≤◌, ℕ, ◌-◌, List, drop, vec_len, vec_capacity}
use Rattle.fibs_model.specs.declared.wire.Wire.TheInside.{Inside}

-- the bytes on their way, and how many more it takes without memory
pub record WireValue : Type 0 where
  pub items : List ℕ
  pub room : ℕ

-- the bytes that were not taken: all memory that holds none of them is room
abbrev pub wire_value : Inside → WireValue
wire_value w =
    record { items = drop w.taken w.bytes.items; room = vec_capacity w.bytes - (vec_len w.bytes - w.taken) }

-- it took no more bytes than it holds
abbrev pub IsWithin : Inside → Type 0
IsWithin w = w.taken ≤ vec_len w.bytes
