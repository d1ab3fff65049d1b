-- What texts of the server say in numbers: dice, steps, points, lengths and scores (as FIBS says them).
use Rattle.std.specs.Prelude.{◌≡◌, ◌==◌, ◌+◌, ◌++◌, ◌∷◌, ◌||◌, ℕ, Bool, not, true, List, [], codes, Option, Some, None, option_map, filter_map, slice_get, slice_index, if◌then◌else◌}
use Rattle.std.specs.List.{list_all, slice_split}
use Rattle.std.specs.Str.{bytes_eq}
use Rattle.fibs_fields.specs.Board.{BoardFields}
use Rattle.fibs_fields.specs.Decimal.{decimal_up_to}
use Rattle.fibs_fields.specs.Split.{before, after}
use Rattle.fibs_rules.specs.Hop.{Hop}
use Rattle.fibs_position.specs.BoardEffect.{AreThrown}
use Rattle.fibs_position.specs.DecisionValue.{move}
use Rattle.fibs_position.specs.DirectionOf.{direction_of}
use Rattle.fibs_position.specs.declared.direction.Direction.{Direction}
use Rattle.fibs_position.specs.declared.direction.Direction.TheVariants.{Down, Up}
use Rattle.fibs_commands.specs.CommandReading.{ReadCommand}
use Rattle.fibs_events.specs.declared.event.Length.{Length}
use Rattle.fibs_events.specs.declared.event.Length.TheVariants as L
use Rattle.fibs_events.specs.declared.event.Side.{Side}
use Rattle.fibs_events.specs.declared.event.Side.TheVariants as S

-- the byte of a digit
abbrev pub digit_of : ℕ → ℕ
digit_of n = 48 + n

-- two dice, as in `You roll 6 and 3.`
abbrev pub dice_words : List ℕ → List ℕ
dice_words dice = digit_of (slice_index dice 0) ∷ (codes " and " ++ (digit_of (slice_index dice 1) ∷ codes "."))

-- a text says these dice
abbrev pub SaysDice : List ℕ → List ℕ → Type 0
SaysDice text dice = AreThrown dice × (text ≡ dice_words dice)

-- the first roll of a game, as in `You rolled 5, eve rolled 3`
abbrev pub opening_words : List ℕ → List ℕ → List ℕ
opening_words dice name =
    digit_of (slice_index dice 0)
    ∷ (codes ", " ++ (name ++ (codes " rolled " ++ (digit_of (slice_index dice 1) ∷ []))))

-- a text says these dice of a first roll: the user's, and that of the player by this name, in which is no space
pub record SaysOpening (text dice name : List ℕ) : Type 0 where
  pub thrown : AreThrown dice
  pub one_word : list_all (λ b. not (b == 32)) name ≡ true
  pub text_is : text ≡ opening_words dice name

-- the other way
abbrev pub other_way : Direction → Direction
other_way Down = Up
other_way Up = Down

-- which way a side goes by the numbers of a board line: the opponent goes the other way than the user
abbrev pub way_of : Side → BoardFields → Direction
way_of S.Own b = direction_of b
way_of S.Other b = other_way (direction_of b)

-- a text says a play of a player who goes this way, as in `eve moves 24-18 18-13 .`: what follows `move` and a
-- space in the command of the play, a space, and a full stop
abbrev pub SaysPlay : Direction → List ℕ → List Hop → Type 0
SaysPlay way text steps =
    (spelled : List ℕ) × (text ≡ spelled ++ codes " .") × ReadCommand (codes "move " ++ spelled) way (move steps)

-- the same of a side on the board that is known, if one is
abbrev pub SaysPlayOf : Option BoardFields → Side → List ℕ → List Hop → Type 0
SaysPlayOf None who text steps = ⊥
SaysPlayOf (Some b) who text steps = SaysPlay (way_of who b) text steps

-- the words between the spaces of a text
abbrev pub words : List ℕ → List (List ℕ)
words text = slice_split (λ b. b == 32) text

-- what some words say, by the first of them that says such a thing
abbrev pub first_said : {X : Type 0} → (List ℕ → Option X) → List (List ℕ) → Option X
first_said said some = slice_get (filter_map said some) 0

-- the words that stand right behind one of a kind
abbrev pub behind : (List ℕ → Bool) → List (List ℕ) → List (List ℕ)
behind is [] = []
behind is (word ∷ []) = []
behind is (word ∷ (next ∷ others)) =
    if is word then next ∷ behind is (next ∷ others) else behind is (next ∷ others)

-- the number that a word is, of at most eight digits
abbrev pub points_said : List ℕ → Option ℕ
points_said word = decimal_up_to 99999999 word

-- the first number of a text
abbrev pub number_in : List ℕ → Option ℕ
number_in text = first_said points_said (words text)

-- a word is `win`
abbrev pub is_win : List ℕ → Bool
is_win word = bytes_eq word (codes "win")

-- for how many points a game is given up: the first number that begins a text or follows `win`
abbrev pub points_in : List ℕ → Option ℕ
points_in text = first_said points_said (behind is_win (codes "win" ∷ words text))

-- a word is `a` or `an`
abbrev pub is_article : List ℕ → Bool
is_article word = bytes_eq word (codes "a") || bytes_eq word (codes "an")

-- the length of a match that a word says
abbrev pub length_said : List ℕ → Option Length
length_said word =
    if bytes_eq word (codes "unlimited") then Some L.Unlimited else option_map (λ n. L.Points n) (points_said word)

-- to how many points a match is, as in `a 3 point match` or `an unlimited match`
abbrev pub length_in : List ℕ → Option Length
length_in text = first_said length_said (behind is_article (words text))

-- what a part of a word says in points, if there is one
abbrev pub points_of : Option (List ℕ) → Option ℕ
points_of None = None
points_of (Some part) = points_said part

-- the points of two players, if both are said
abbrev pub both : Option ℕ → Option ℕ → Option (List ℕ)
both None other = None
both (Some one) None = None
both (Some one) (Some other) = Some (one ∷ (other ∷ []))

-- the score that a word is, as `3-1`
abbrev pub score_said : List ℕ → Option (List ℕ)
score_said word = both (points_said (before 45 word)) (points_of (after 45 word))

-- the points of the winner and of the other, as in `the 3 point match 3-1 .`
abbrev pub score_in : List ℕ → Option (List ℕ)
score_in text = first_said score_said (words text)
