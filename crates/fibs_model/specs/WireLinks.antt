-- What is done to the wires of a connection, by what the value of the program says of them.
use Rattle.std.specs.Prelude.{ℕ, false, List, [], ◌++◌, take, drop}
use Rattle.fibs_model.specs.LinksOf.{LinkValue}

-- bytes are put on the wire to the server
abbrev pub more_asked : LinkValue → List ℕ → LinkValue
more_asked l bytes = record { coming = l.coming; asked = l.asked ++ bytes; fresh = l.fresh }

-- bytes are put on the wire to the client
abbrev pub more_coming : LinkValue → List ℕ → LinkValue
more_coming l bytes = record { coming = l.coming ++ bytes; asked = l.asked; fresh = l.fresh }

-- the connection is lost: of the bytes on their way to the server the first k stay, of those to the client none
abbrev pub cut_off : LinkValue → ℕ → LinkValue
cut_off l k = record { coming = []; asked = take k l.asked; fresh = l.fresh }

-- the next n bytes go to the client
abbrev pub delivered : LinkValue → ℕ → LinkValue
delivered l n = record { coming = drop n l.coming; asked = l.asked; fresh = l.fresh }

-- the server takes a line, with its line end, and this is left
abbrev pub taken : LinkValue → List ℕ → LinkValue
taken l left = record { coming = l.coming; asked = left; fresh = false }
