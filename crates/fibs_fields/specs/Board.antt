-- Boards of FIBS board style 3: the 53 fields of a board line, its spelling, and its first wrong field.
use Rattle.std.specs.Prelude.{◌≡◌, ◌==◌, ◌&&◌, ◌-◌, ◌++◌, ℕ, Bool, true, false, cond, List, [], ◌∷◌, Option, Some, None, ℤ, pos, negsuc, map, codes, replicate, nat_le, slice_get, slice_set, slice_index_or}
use Rattle.fibs_fields.specs.Spaces.{without_spaces}
use Rattle.std.specs.List.{AllZip, slice_split, join_with_byte}
use Rattle.std.specs.Fmt.{signed_decimal}
use Rattle.fibs_fields.specs.Decimal.{allows}
use Rattle.fibs_fields.specs.Field.{Kind, the_word, a_name, a_number_of, fault_at, IsFirstFault}
use Rattle.fibs_fields.specs.Name.{is_name}
use Rattle.fibs_fields.specs.declared.fault.Fault.{Fault}
use Rattle.fibs_fields.specs.declared.values.Values.{Values}
use Rattle.fibs_fields.specs.declared.values.Values.TheVariants.{Between, Either}

-- a board: the names of the player and of the opponent (fields 2 and 3), and the numbers of fields 4 to 53
pub record BoardFields : Type 0 where
  pub player : List ℕ
  pub opponent : List ℕ
  pub numbers : List ℤ

-- no, or yes
abbrev pub flag : Values
flag = Either (pos 0) (pos 1)

-- X, or O; down, or up
abbrev pub side : Values
side = Either (negsuc 0) (pos 1)

-- the place at either end of the numbering
abbrev pub edge : Values
edge = Either (pos 0) (pos 25)

-- X's checkers on a place, negative, or O's
abbrev pub place : Values
place = Between (negsuc 14) (pos 15)

-- some of a side's 15 checkers
abbrev pub checkers : Values
checkers = Between (pos 0) (pos 15)

-- a count that has no limit of its own
abbrev pub count : Values
count = Between (pos 0) (pos 9999)

-- what each of fields 4 to 53 may be (FIBS board style 3)
unfoldable pub field_values : List Values
field_values =
    -- 4: match length, 9999 for unlimited
    (count ∷ [])
    -- 5, 6: score of the player, of the opponent
    ++ replicate 2 (Between (pos 0) (pos 99999999))
    -- 7 to 32: places 0 to 25, O's checkers positive and X's negative
    ++ replicate 26 place
    -- 33: turn, -1 for X, 1 for O, 0 if the game is over
    ++ (Between (negsuc 0) (pos 1) ∷ [])
    -- 34 to 37: the player's dice, the opponent's, 0 if there are none
    ++ replicate 4 (Between (pos 0) (pos 6))
    -- 38: the doubling cube
    ++ (Between (pos 1) (pos 1048576) ∷ [])
    -- 39, 40: the player, the opponent may double
    ++ replicate 2 flag
    -- 41: the opponent has just doubled
    ++ (flag ∷ [])
    -- 42: the player's colour, -1 for X, 1 for O
    ++ (side ∷ [])
    -- 43: direction, -1 from 24 down to 1, 1 from 1 up to 24
    ++ (side ∷ [])
    -- 44, 45: home, bar
    ++ replicate 2 edge
    -- 46, 47: borne off by the player, by the opponent
    ++ replicate 2 checkers
    -- 48, 49: on the bar of the player, of the opponent
    ++ replicate 2 checkers
    -- 50: how many checkers can move
    ++ (checkers ∷ [])
    -- 51, 52, 53: forced move, did Crawford, redoubles
    ++ replicate 3 count

-- each number is one that its field may have
abbrev pub Fit : List Values → List ℤ → Type 0
Fit = AllZip (λ values z. allows values z ≡ true)

-- the fields are a board: two names, and numbers that their fields may have
abbrev pub IsBoard : BoardFields → Type 0
IsBoard b = (is_name b.player ≡ true) × (is_name b.opponent ≡ true) × Fit field_values b.numbers

-- each number is one that its field may have, as a test
abbrev pub fit : List Values → List ℤ → Bool
fit [] [] = true
fit [] (z ∷ zs) = false
fit (v ∷ vs) [] = false
fit (v ∷ vs) (z ∷ zs) = allows v z && fit vs zs

-- the fields are a board, as a test
unfoldable pub is_board : BoardFields → Bool
is_board b = is_name b.player && (is_name b.opponent && fit field_values b.numbers)

-- the number of field n
abbrev pub field_of : BoardFields → ℕ → ℤ
field_of b n = slice_index_or b.numbers (n - 4) (pos 0)

-- an entry of the table allows the number, if there is one
abbrev pub allowed_by : Option Values → ℤ → Bool
allowed_by None z = false
allowed_by (Some values) z = allows values z

-- n is 4 to 53, and field n may have the number
abbrev pub can_have : ℕ → ℤ → Bool
can_have n z = nat_le 4 n && allowed_by (slice_get field_values (n - 4)) z

-- the board with the number of field n changed, if the field may have it
abbrev pub with_field : BoardFields → ℕ → ℤ → Option BoardFields
with_field b n z = cond (can_have n z) (Some (record b { numbers = slice_set b.numbers (n - 4) z })) None

-- the 53 fields as they are spelled: the word `board`, the names, and the numbers as canonical decimals
abbrev pub texts : BoardFields → List (List ℕ)
texts b = codes "board" ∷ b.player ∷ b.opponent ∷ map signed_decimal b.numbers

-- the line of a board: its fields, joined by colons
abbrev pub spelling : BoardFields → List ℕ
spelling b = join_with_byte 58 (texts b)

-- the line says this board: its spelling, followed by any number of spaces
abbrev pub BoardText : BoardFields → List ℕ → Type 0
BoardText b line = IsBoard b × ((n : ℕ) × (line ≡ spelling b ++ replicate n 32))

-- the pieces of a text between its colons
abbrev pub pieces : List ℕ → List (List ℕ)
pieces text = slice_split (λ c. c == 58) text

-- the kinds of the 53 fields
abbrev pub kinds : List Kind
kinds = the_word (codes "board") ∷ a_name ∷ a_name ∷ map a_number_of field_values

-- field k is the first that is wrong, for the reason f: without the spaces at its end the line is split at colons
abbrev pub Wrong : List ℕ → ℕ → Fault → Type 0
Wrong line k f = IsFirstFault (fault_at kinds (pieces (without_spaces line))) k f
