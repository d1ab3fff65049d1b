-- The facts of a board in words: a row of the board has one beside it, or they stand below it (the project's own). A
-- fact is a list of words, and no word has a space.
use Rattle.std.specs.Prelude.{◌+◌, ◌-◌, ◌++◌, ◌==◌, ◌&&◌, ℕ, ℤ, pos, Bool, true, false, List, [], ◌∷◌, codes, decimal, take, length, min, nat_lt, nat_le, if◌then◌else◌}
use Rattle.std.specs.Fmt.{signed_decimal}
use Rattle.std.specs.Ordering.{int_eq}
use Rattle.std.specs.Str.{bytes_eq}
use Rattle.fibs_fields.specs.Board.{BoardFields, field_of}
use Rattle.fibs_fields.specs.FieldReading.{natural}
use Rattle.fibs_position.specs.OwnView.{turn, colour}
use Rattle.fibs_position.specs.PositionValue.{PositionValue}
use Rattle.fibs_picture.specs.Marks.{marked}
use Rattle.fibs_picture.specs.Picture.{own_pips, other_pips, is_one}
use Rattle.fibs_picture.specs.Strip.{is_below}
use Rattle.fibs_picture.specs.declared.cell.Half.TheVariants as half
use Rattle.fibs_picture.specs.declared.look.Look.{Look}
use Rattle.fibs_picture.specs.declared.mark.Mark.{Mark}
use Rattle.fibs_picture.specs.declared.mark.Mark.TheVariants as M
use Rattle.fibs_picture.specs.declared.notes.Note.{Note}
use Rattle.fibs_picture.specs.declared.notes.Note.TheVariants as T

-- words, with a space between two; two spaces are an empty word
abbrev pub spaced : List (List ℕ) → List ℕ
spaced [] = []
spaced (w ∷ []) = w
spaced (w ∷ x ∷ ws) = w ++ 32 ∷ spaced (x ∷ ws)

-- how many columns a fact may have
unfoldable pub room : ℕ → ℕ
room columns = if is_below columns then 32 else min columns 79 - 47

-- the words may have their long form, and there is room
abbrev pub says_long_words : Look → Bool
says_long_words look = look.is_long && nat_le 79 look.columns

-- a letter before a word
abbrev pub lettered : ℕ → List ℕ → List (List ℕ)
lettered letter word = (letter ∷ []) ∷ word ∷ []

-- a label before some words: beside the board it is indented, and more than one space may follow
abbrev pub labelled : Bool → List ℕ → List (List ℕ) → List (List ℕ) → List (List ℕ)
labelled below label fill value = if below then label ∷ value else [] ∷ [] ∷ label ∷ (fill ++ value)

-- of a die that is shown the mark
abbrev pub die_mark : Mark → ℕ → Mark
die_mark mark die = if die == 0 then M.Plain else mark

-- how far the player is behind or ahead
abbrev pub race_count : ℕ → ℕ → List ℕ
race_count own other =
    if own == other then codes "(even" else 40 ∷ decimal (if nat_lt other own then own - other else other - own)

-- which of the two
abbrev pub race_word : ℕ → ℕ → List ℕ
race_word own other =
    if own == other then codes "race)" else (if nat_lt other own then codes "behind)" else codes "ahead)")

-- a die as a word
abbrev pub die_word : Mark → ℕ → List ℕ
die_word mark die = marked (die_mark mark die) (48 + die)

-- two dice, or that there are none
abbrev pub two_dice : Mark → ℕ → ℕ → List (List ℕ)
two_dice mark first second =
    if (first == 0) && (second == 0) then (45 ∷ []) ∷ [] else die_word mark first ∷ die_word mark second ∷ []

-- 9999 means an unlimited match
abbrev pub match_words : ℤ → List (List ℕ)
match_words n =
    if int_eq n (pos 9999) then codes "unlimited" ∷ codes "match" ∷ []
    else codes "match" ∷ codes "to" ∷ signed_decimal n ∷ []

-- what is a player's, by his name
abbrev pub whose : List ℕ → List ℕ
whose name = name ++ codes "'s"

-- who may double next, in so many columns: on a board that is watched by the letter and the name
unfoldable pub doublers : Look → Bool → BoardFields → ℕ → Bool → Bool → List (List ℕ)
doublers look watched b left true true =
    if says_long_words look then codes "in" ∷ codes "the" ∷ codes "middle" ∷ [] else codes "centred" ∷ []
doublers look watched b left true false =
    if watched then lettered look.own (whose (take (min (left - 4) 14) b.player)) else codes "yours" ∷ []
doublers look watched b left false true =
    if watched then lettered look.other (whose (take (min (left - 4) 14) b.opponent))
    else (if says_long_words look then codes "the" ∷ codes "opponent's" ∷ []
    else whose (take (min (left - 2) 24) b.opponent) ∷ [])
doublers look watched b left false false = codes "no" ∷ codes "doubling" ∷ []

-- the opponent's turn, on a board of the user's own: his name, if it can be told from nobody
unfoldable pub others_turn : Look → List ℕ → List (List ℕ)
others_turn look name =
    if says_long_words look then codes "the" ∷ codes "opponent's" ∷ codes "turn" ∷ []
    else (if bytes_eq name (codes "nobody") then codes "the" ∷ codes "opponent's" ∷ codes "turn" ∷ []
    else whose name ∷ codes "turn" ∷ [])

-- whose turn it is, by whether it is nobody's, and the player's
unfoldable pub turn_words : Look → Bool → BoardFields → Bool → Bool → List (List ℕ)
turn_words look watched b true own = codes "nobody's" ∷ codes "turn" ∷ []
turn_words look watched b false true =
    if watched then (look.own ∷ []) ∷ whose (take (room look.columns - 9) b.player) ∷ codes "turn" ∷ []
    else codes "your" ∷ codes "turn" ∷ []
turn_words look watched b false false =
    if watched then (look.other ∷ []) ∷ whose (take (room look.columns - 9) b.opponent) ∷ codes "turn" ∷ []
    else others_turn look (take (room look.columns - 8) b.opponent)

-- a fact in words; of the player's dice the mark. A name is told as far as there is room
unfoldable pub note : Look → Bool → BoardFields → PositionValue → Mark → Note → List (List ℕ)
note look watched b p mark (T.Name half.Upper) = lettered look.other (take (room look.columns - 2) b.opponent)
note look watched b p mark (T.Name half.Lower) = lettered look.own (take (room look.columns - 2) b.player)
note look watched b p mark (T.Score half.Upper) =
    labelled (is_below look.columns) (codes "score") [] (signed_decimal (field_of b 6) ∷ [])
note look watched b p mark (T.Score half.Lower) =
    labelled (is_below look.columns) (codes "score") [] (signed_decimal (field_of b 5) ∷ [])
note look watched b p mark (T.Off half.Upper) =
    labelled (is_below look.columns) (codes "off") ([] ∷ [] ∷ []) (signed_decimal (field_of b 47) ∷ [])
note look watched b p mark (T.Off half.Lower) =
    labelled (is_below look.columns) (codes "off") ([] ∷ [] ∷ []) (signed_decimal (field_of b 46) ∷ [])
note look watched b p mark (T.Pips half.Upper) =
    labelled (is_below look.columns) (codes "pips") ([] ∷ []) (decimal (other_pips p.standing.checkers) ∷ [])
note look watched b p mark (T.Pips half.Lower) =
    let own = own_pips p.standing.checkers in let other = other_pips p.standing.checkers in
    labelled (is_below look.columns) (codes "pips") ([] ∷ [])
    (decimal own ∷ race_count own other ∷ race_word own other ∷ [])
note look watched b p mark (T.Dice half.Upper) =
    labelled (is_below look.columns) (codes "dice") ([] ∷ [])
    (two_dice M.Plain (natural (field_of b 36)) (natural (field_of b 37)))
note look watched b p mark (T.Dice half.Lower) =
    labelled (is_below look.columns) (codes "dice") ([] ∷ [])
    (two_dice mark (natural (field_of b 34)) (natural (field_of b 35)))
note look watched b p mark T.Length = match_words (field_of b 4)
note look watched b p mark T.Cube =
    codes "cube" ∷ (signed_decimal (field_of b 38) ++ codes ",")
    ∷ doublers look watched b ((room look.columns - 7) - length (signed_decimal (field_of b 38)))
    (is_one b 39) (is_one b 40)
note look watched b p mark T.Turn = turn_words look watched b (int_eq (turn b) (pos 0)) (int_eq (turn b) (colour b))
