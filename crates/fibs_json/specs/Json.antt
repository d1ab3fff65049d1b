-- JSON texts (RFC 8259) of the values that a line has, and how bytes stand in a string.
use Rattle.std.specs.Prelude.{◌+◌, ◌||◌, ◌/◌, ◌%◌, ◌==◌, ℕ, ℤ, Bool, true, false, nat_lt, List, [], ◌∷◌, ◌++◌, codes, if◌then◌else◌}
use Rattle.std.specs.Fmt.{decimal, signed_decimal}
use Rattle.std.specs.List.{flat_map}
use Rattle.fibs_fields.specs.Rating.{printed_rating}

-- a byte that does not stand in a string as it is: one outside 32 to 126, `"` or `\`
abbrev pub is_escaped : ℕ → Bool
is_escaped b = nat_lt b 32 || (nat_lt 126 b || (b == 34 || b == 92))

-- a hexadecimal digit
abbrev pub digit : ℕ → ℕ
digit d = if nat_lt d 10 then 48 + d else 87 + d

-- the character of this number: `\u00` and two hexadecimal digits
abbrev pub character : ℕ → List ℕ
character b = 92 ∷ 117 ∷ 48 ∷ 48 ∷ digit (b / 16) ∷ digit (b % 16) ∷ []

-- a byte in a string: as it is, or as the character of its number
abbrev pub in_string : ℕ → List ℕ
in_string b = if is_escaped b then character b else b ∷ []

-- the bytes in a string
abbrev pub inside : List ℕ → List ℕ
inside bytes = flat_map in_string bytes

-- bytes as a string
abbrev pub quoted : List ℕ → List ℕ
quoted bytes = 34 ∷ (inside bytes ++ (34 ∷ []))

-- a value
pub data Json : Type 0 where
  string : List ℕ → Json
  whole : ℕ → Json
  signed : ℤ → Json
  -- a number with two digits after its point, in hundredths
  hundredths : ℕ → Json
  truth : Bool → Json
  wholes : List ℕ → Json
  null : Json

-- a further item of an array, by the texts of such items
abbrev pub more_item : {A : Type 0} → (A → List ℕ) → A → List ℕ
more_item text x = 44 ∷ text x

-- an array of items, by their texts
abbrev pub array_of : {A : Type 0} → (A → List ℕ) → List A → List ℕ
array_of text [] = codes "[]"
array_of text (x ∷ xs) = 91 ∷ (text x ++ (flat_map (more_item text) xs ++ (93 ∷ [])))

-- a further number of an array
abbrev pub more_number : ℕ → List ℕ
more_number n = 44 ∷ decimal n

-- an array of numbers
abbrev pub array_text : List ℕ → List ℕ
array_text [] = codes "[]"
array_text (n ∷ ns) = 91 ∷ (decimal n ++ (flat_map more_number ns ++ (93 ∷ [])))

-- the text of a value
abbrev pub json_text : Json → List ℕ
json_text (string bytes) = quoted bytes
json_text (whole n) = decimal n
json_text (signed z) = signed_decimal z
json_text (hundredths r) = printed_rating r
json_text (truth true) = codes "true"
json_text (truth false) = codes "false"
json_text (wholes ns) = array_text ns
json_text null = codes "null"

-- a member of an object: a name of letters and `_`, and its value
pub record Member : Type 0 where
  pub name : List ℕ
  pub value : Json

-- a member by its name and its value
abbrev pub member : List ℕ → Json → Member
member name value = record { name = name; value = value }

-- a name in quotation marks, and a colon
abbrev pub key : List ℕ → List ℕ
key name = 34 ∷ (name ++ (34 ∷ 58 ∷ []))

-- the text of a member
abbrev pub member_text : Member → List ℕ
member_text m = key m.name ++ json_text m.value

-- and of a further one, after a comma
unfoldable pub more_member : Member → List ℕ
more_member m = 44 ∷ member_text m

-- further members, each after a comma
abbrev pub more_members : List Member → List ℕ
more_members ms = flat_map more_member ms

-- a further member of which the text of the value is known
abbrev pub more_value : List ℕ → List ℕ → List ℕ
more_value name text = 44 ∷ (key name ++ text)

-- an object
abbrev pub object : List Member → List ℕ
object [] = codes "{}"
object (m ∷ ms) = 123 ∷ (member_text m ++ (more_members ms ++ (125 ∷ [])))
