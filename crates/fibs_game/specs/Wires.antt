-- The wires of a connection, and the lines that a server takes from one (the project's own model).
use Rattle.std.specs.Prelude.{ℕ, ◌&&◌, List, [], ◌∷◌, ◌++◌, take, drop, Option, Some, None, nat_eq, if◌then◌else◌}

-- the bytes on the wires of a connection, each way as two lists: those that were taken, and those on their way. Bytes
-- that a loss drops are in neither
pub record Link : Type 0 where
  -- to the client
  pub heard : List ℕ
  pub coming : List ℕ
  -- to the server
  pub served : List ℕ
  pub asked : List ℕ

-- the wires of a connection that never was
abbrev pub empty_link : Link
empty_link = record { heard = []; coming = []; served = []; asked = [] }

-- bytes are put on the wire to the client
abbrev pub more_coming : Link → List ℕ → Link
more_coming l bytes = record l { coming = l.coming ++ bytes }

-- the next n bytes on it go to the client
abbrev pub delivered : Link → ℕ → Link
delivered l n = record l { heard = l.heard ++ take n l.coming; coming = drop n l.coming }

-- bytes are put on the wire to the server
abbrev pub more_asked : Link → List ℕ → Link
more_asked l bytes = record l { asked = l.asked ++ bytes }

-- the server takes a line, with its line end, and this is left
abbrev pub taken : Link → List ℕ → List ℕ → Link
taken l line left = record l { served = l.served ++ line; asked = left }

-- the connection is lost: of the bytes on their way to the server the first k stay, of those to the client none
abbrev pub cut_off : Link → ℕ → Link
cut_off l k = record l { coming = []; asked = take k l.asked }

-- a byte more in front of the line that is found
abbrev pub put : ℕ → Option (List ℕ × List ℕ) → Option (List ℕ × List ℕ)
put b None = None
put b (Some p) = Some (b ∷ p.0, p.1)

-- the next whole line to the server: the bytes before the first CR LF (13 10), and the bytes after it
unfoldable pub next_line : List ℕ → Option (List ℕ × List ℕ)
next_line [] = None
next_line (b ∷ []) = None
next_line (b ∷ c ∷ bytes) = if nat_eq b 13 && nat_eq c 10 then Some ([], bytes) else put b (next_line (c ∷ bytes))
