-- The wires of the program's connections as values, and those of the machine to which they correspond.
use Rattle.std.specs.Prelude.{◌≡◌, ◌≤◌, ◌-◌, ℕ, Bool, true, List, [], ◌∷◌, map, get_or, slice_set}
use Rattle.fibs_session.specs.History.Words.{is_empty}
use Rattle.fibs_model.specs.Wires as W
use Rattle.fibs_model.specs.declared.world.link.Link.{Link}

-- what the value of a connection's wires says: the bytes on their way, and whether the server took no line yet
pub record LinkValue : Type 0 where
  -- to the client
  pub coming : List ℕ
  -- to the server
  pub asked : List ℕ
  pub fresh : Bool

-- that of a connection that never was
abbrev pub no_link : LinkValue
no_link = record { coming = []; asked = []; fresh = true }

-- that of wires of the machine, which keep all bytes
abbrev pub kept_of : W.Link → LinkValue
kept_of l = record { coming = l.coming; asked = l.asked; fresh = is_empty l.served }

-- that of the program's
abbrev pub link_of : Link → LinkValue
link_of l = record { coming = l.to_client.items; asked = l.to_server.items; fresh = l.fresh }

-- the wires of all connections, as the machine sees them
abbrev pub seen : List Link → List LinkValue
seen links = map link_of links

-- the wires of a connection, from the list of those of connection 1 on; of others they are empty
abbrev pub link_at : List LinkValue → ℕ → LinkValue
link_at links c = get_or (no_link ∷ links) c no_link

-- the wires of one connection become these
abbrev pub set_link : List LinkValue → ℕ → LinkValue → List LinkValue
set_link links c l = slice_set links (c - 1) l

-- there is room for n bytes more on a wire of a connection
abbrev pub RoomToClient : List Link → ℕ → ℕ → Type 0
RoomToClient links c n = (l : Link) → l ≡ get_or links (c - 1) l → n ≤ l.to_client.room

-- there is room for n bytes more on the wire of connection c to the server
abbrev pub RoomToServer : List Link → ℕ → ℕ → Type 0
RoomToServer links c n = (l : Link) → l ≡ get_or links (c - 1) l → n ≤ l.to_server.room
