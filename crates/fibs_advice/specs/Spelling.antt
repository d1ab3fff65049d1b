-- Moves as players type them, and the steps that they show: `24/18 13/11`, `m 24-18 13-11`, `8/5(2)`, `24/18*/13`,
-- `bar/20`, `6/off` (the custom of players).
use Rattle.std.specs.Prelude.{◌≡◌, ◌≤◌, ◌+◌, ◌==◌, ◌||◌, ◌++◌, ◌∷◌, ◌⊎◌, ℕ, Bool, true, false, cond, List, [], codes, length, nat_le, replicate, Option, Some, None}
use Rattle.std.specs.List.{slice_split, list_any, count_by}
use Rattle.std.specs.Str.{bytes_eq, str_eq_ignore_ascii_case}
use Rattle.fibs_fields.specs.Decimal.{decimal_up_to}
use Rattle.fibs_fields.specs.Split.{before, after}
use Rattle.fibs_rules.specs.Hop.{Hop}
use Rattle.fibs_position.specs.DecisionValue.{move}
use Rattle.fibs_position.specs.declared.direction.Direction.{Direction}
use Rattle.fibs_commands.specs.CommandReading.{numbered_place, step_between}
use Rattle.fibs_session.specs.History.Machine.{Talk, shown_now}
use Rattle.fibs_advice.specs.Sending.{rules_allow}

-- what stands between the bytes c of a text
abbrev pub between : ℕ → List ℕ → List (List ℕ)
between c text = slice_split (λ b. b == c) text

-- steps, and those that follow them, if there are both
abbrev pub joined : Option (List Hop) → Option (List Hop) → Option (List Hop)
joined None later = None
joined (Some steps) None = None
joined (Some steps) (Some later) = Some (steps ++ later)

-- the place of a name by numbers by which the user goes this way: the bar, off, or a number from 1 to 24
unfoldable pub place_named : Direction → List ℕ → Option ℕ
place_named way name =
    cond (str_eq_ignore_ascii_case name (codes "bar") || str_eq_ignore_ascii_case name (codes "b")) (Some 25)
    (cond (str_eq_ignore_ascii_case name (codes "off") || str_eq_ignore_ascii_case name (codes "o")) (Some 0)
    (numbered_place way (decimal_up_to 24 name)))

-- nothing follows
abbrev pub is_end : Option (List ℕ) → Bool
is_end None = true
is_end (Some text) = bytes_eq text []

-- a `*` may follow a name, where a checker is hit
unfoldable pub place_typed : Direction → List ℕ → Option ℕ
place_typed way name = cond (is_end (after 42 name)) (place_named way (before 42 name)) None

-- an empty word says nothing, and no `*` alone
unfoldable pub is_filler : List ℕ → Bool
is_filler word = bytes_eq word [] || bytes_eq word (codes "*")

-- nothing but a `*` follows a bracket
abbrev pub is_closed : Option (List ℕ) → Bool
is_closed None = false
is_closed (Some text) = is_filler text

-- how often: from once to four times
abbrev pub not_never : Option ℕ → Option ℕ
not_never None = None
not_never (Some times) = cond (times == 0) None (Some times)

-- how often each step of a word is made, before whose end `(2)` may stand
unfoldable pub times_in : Option (List ℕ) → Option ℕ
times_in None = Some 1
times_in (Some text) = cond (is_closed (after 41 text)) (not_never (decimal_up_to 4 (before 41 text))) None

-- a step that is made so often
abbrev pub repeated : ℕ → Option Hop → Option (List Hop)
repeated times None = None
repeated times (Some step) = Some (replicate times step)

-- from a place to the first one that is named, from that to the second one, and so on
abbrev pub along : Direction → ℕ → Option ℕ → List (List ℕ) → Option (List Hop)
along way times source [] = Some []
along way times source (name ∷ names) =
    joined (repeated times (step_between source (place_typed way name))) (along way times (place_typed way name) names)

-- so go the steps of some names; a place alone is no step
abbrev pub steps_of_names : Direction → Option ℕ → List (List ℕ) → Option (List Hop)
steps_of_names way None names = None
steps_of_names way (Some times) [] = None
steps_of_names way (Some times) (first ∷ []) = None
steps_of_names way (Some times) (first ∷ (name ∷ names)) = along way times (place_typed way first) (name ∷ names)

-- names stand between `/`, or, if there is none, between `-`
unfoldable pub cut_of : List ℕ → ℕ
cut_of text = cond (list_any (λ b. b == 47) text) 47 45

-- the steps of a word, `(2)` being behind the names
unfoldable pub steps_of_word : Direction → List ℕ → Option (List Hop)
steps_of_word way word =
    cond (is_filler word) (Some [])
    (steps_of_names way (times_in (after 40 word)) (between (cut_of (before 40 word)) (before 40 word)))

-- the steps of some words, one word after the other
abbrev pub steps_of_words : Direction → List (List ℕ) → Option (List Hop)
steps_of_words way [] = Some []
steps_of_words way (word ∷ words) = joined (steps_of_word way word) (steps_of_words way words)

-- the word is `m` or `move`
unfoldable pub is_move_word : List ℕ → Bool
is_move_word word =
    str_eq_ignore_ascii_case word (codes "move") || str_eq_ignore_ascii_case word (codes "m")

-- the steps of a line's words, before which that word may stand
abbrev pub steps_of_line : Direction → List (List ℕ) → Option (List Hop)
steps_of_line way [] = Some []
steps_of_line way (word ∷ words) =
    cond (bytes_eq word []) (steps_of_line way words)
    (cond (is_move_word word) (steps_of_words way words) (steps_of_words way (word ∷ words)))

-- a move has one step at least, and at most four
abbrev pub one_to_four : Option (List Hop) → Option (List Hop)
one_to_four None = None
one_to_four (Some []) = None
one_to_four (Some (step ∷ steps)) = cond (nat_le (length (step ∷ steps)) 4) (Some (step ∷ steps)) None

-- the steps that a line shows, by numbers by which the user goes this way
unfoldable pub steps_shown : Direction → List ℕ → Option (List Hop)
steps_shown way line = one_to_four (steps_of_line way (between 32 line))

-- how many checkers steps take from a place
abbrev pub taken_from : ℕ → List Hop → ℕ
taken_from place steps = count_by (λ step. step.source == place) steps

-- how many they bring there
abbrev pub brought_to : ℕ → List Hop → ℕ
brought_to place steps = count_by (λ step. step.target == place) steps

-- of a place both ways to move take as many checkers, and bring as many there
abbrev pub ChangesSame : ℕ → List Hop → List Hop → Type 0
ChangesSame place a b = taken_from place a + brought_to place b ≡ taken_from place b + brought_to place a

-- so do they of each place: the checkers stand the same after both
abbrev pub LeadsSame : List Hop → List Hop → Type 0
LeadsSame a b = (place : ℕ) → place ≤ 25 → ChangesSame place a b

-- the play that is meant by steps: these, or one that the rules allow on the board that is shown, and after which the
-- checkers stand the same, as `24/13` means `24/18 18/13`
abbrev pub IsMeantBy : Talk → List Hop → List Hop → Type 0
IsMeantBy t steps play = (play ≡ steps) ⊎ (LeadsSame steps play × (rules_allow (shown_now t) (move play) ≡ true))

-- what a line is taken for: the play of the steps that it shows, if it shows some
abbrev pub IsReadAs : Talk → Option (List Hop) → Option (List Hop) → Type 0
IsReadAs t None read = read ≡ None
IsReadAs t (Some steps) read = (play : List Hop) × (read ≡ Some play) × IsMeantBy t steps play
