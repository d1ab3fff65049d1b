-- A counter that two sides raise in turn, as a game: a small example, with its own spelling.
use Rattle.std.specs.Prelude.{◌≡◌, ℕ, zero, suc, ◌+◌, Bool, true, false, List, [], ◌∷◌, ◌++◌, Option, Some, None, if◌then◌else◌, nat_eq}
use Rattle.std.specs.Str.{bytes_eq}
use Rattle.fibs_game.specs.declared.refusal.Refusal.TheVariants.{NotYours}
use Rattle.fibs_game.specs.Game.{Game, Says, welcomes, informs, shows, says_nothing}

-- what was counted, and whether the user is to raise it
pub record Count : Type 0 where
  pub value : ℕ
  pub yours : Bool

-- a side raises it by one or by two
pub data Raise : Type 0 where
  by_one : Raise
  by_two : Raise

-- by so much
abbrev pub amount : Raise → ℕ
amount by_one = 1
amount by_two = 2

-- what a raise of the user leads to: then the other side is to raise it
abbrev pub raised : Count → Raise → Option Count
raised b d = if b.yours then Some (record { value = b.value + amount d; yours = false }) else None

-- the whole lines of a stream, of which a part was read: LF (10) ends a line
abbrev pub lines_from : List ℕ → List ℕ → List (List ℕ)
lines_from part [] = []
lines_from part (b ∷ bytes) =
    if nat_eq b 10 then part ∷ lines_from [] bytes else lines_from (part ++ b ∷ []) bytes

-- as many strokes '1' (49)
abbrev pub strokes : ℕ → List ℕ
strokes zero = []
strokes (suc n) = 49 ∷ strokes n

-- how many strokes there are
abbrev pub tally : List ℕ → ℕ
tally [] = 0
tally (b ∷ bytes) = if nat_eq b 49 then suc (tally bytes) else tally bytes

-- what a line says: 'W' (87) welcomes, 'I' (73) informs, 'Y' (89) and 'T' (84) show the count before your turn and
-- theirs
abbrev pub said : List ℕ → Says Count (Unit {0})
said [] = says_nothing
said (b ∷ bytes) =
    if nat_eq b 87 then welcomes
    else (if nat_eq b 73 then informs tt
    else (if nat_eq b 89 then shows (record { value = tally bytes; yours = true })
    else (if nat_eq b 84 then shows (record { value = tally bytes; yours = false }) else says_nothing)))

-- the line that shows a count
abbrev pub spelled : Count → List ℕ
spelled b = (if b.yours then 89 else 84) ∷ strokes b.value

-- the line that raises it: '1' (49) or '2' (50)
abbrev pub text_of : Raise → List ℕ
text_of by_one = 49 ∷ []
text_of by_two = 50 ∷ []

-- the raise that a line says
abbrev pub raise_in : List ℕ → Option Raise
raise_in text =
    if bytes_eq text (text_of by_one) then Some by_one
    else (if bytes_eq text (text_of by_two) then Some by_two else None)

-- the game: counts of one value are alike, and a standing order raises by one
abbrev pub counter : Game
counter = record {
  Board = Count;
  Decision = Raise;
  like = λ a b. nat_eq a.value b.value;
  good = λ b. true;
  decides = λ b. b.yours;
  allows = λ b d. if b.yours then None else Some NotYours;
  effect = λ b d d1 d2. raised b d;
  is_die = λ n. true;
  Good = λ b. Unit {0};
  Legal = λ b d. b.yours ≡ true;
  Differ = λ a b. nat_eq a.value b.value ≡ false;
  Leads = λ b d d1 d2 b'. raised b d ≡ Some b';
  rolls = λ b. b.yours;
  roll = by_one;
  Line = List ℕ;
  Reading = List ℕ;
  lines = lines_from [];
  reading = λ l. l;
  Info = Unit {0};
  says = said;
  flags = λ m. record { automove = false; greedy = false };
  initial = λ m. [];
  spelling = spelled;
  command = λ b d. text_of d;
  decision_in = λ b text. raise_in text;
  style = 83 ∷ [];
  Plain = ⊥;
  plain = λ p. absurd p;
  Fault = Bool;
  offline = true;
  not_on = false;
  plain_fault = λ p. absurd p;
  turns_off = λ p. absurd p;
}

-- The same, but each raise is spelled '1': it breaks the law that a decision's text is read as that decision.
abbrev pub shared : Game
shared = record counter { command = λ b d. text_of by_one }
