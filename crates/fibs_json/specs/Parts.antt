-- Parts of an object. No public contract rests on them.
use Rattle.std.specs.Prelude.{◌≡◌, ℕ, List, ◌∷◌, ◌++◌, codes}
use Rattle.fibs_fields.specs.Field.{FieldValue}
use Rattle.fibs_json.specs.Columns.{NamedField, field_member}
use Rattle.fibs_json.specs.Json.{more_members}
use Rattle.fibs_json.specs.Told.{StandsAsItIs}

-- the text of a field
unfoldable pub field_text : List FieldValue → NamedField → List ℕ
field_text fields named = more_members (field_member fields named)

-- the front of a board's object, up to the bytes of its line
abbrev pub front : List ℕ
front = codes "{\"kind\":\"board\",\"line\":\""

-- a text begins with this line, none of whose bytes is escaped, and a quotation mark
abbrev pub BeginsWith : List ℕ → List ℕ → Type 0
BeginsWith line text = StandsAsItIs line × ((more : List ℕ) × (text ≡ line ++ (34 ∷ more)))
