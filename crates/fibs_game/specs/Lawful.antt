-- The laws of a game, as the headline, at most once and rest need them: what has to be shown of `fibs`.
use Rattle.std.specs.Prelude.{◌≡◌, ℕ, ◌+◌, ◌≤◌, Bool, true, false, List, [], ◌∷◌, ◌++◌, Some, None, nat_eq, length}
use Rattle.fibs_game.specs.Game.{Game, shows}
use Rattle.fibs_game.specs.Machine.{on_wire}

-- the bytes hold no CR
abbrev pub NoReturn : List ℕ → Type 0
NoReturn [] = Unit {0}
NoReturn (b ∷ bytes) = (nat_eq b 13 ≡ false) × NoReturn bytes

-- a command that is no decision, and holds no CR
pub record IsQuiet (G : Game) (t : List ℕ) : Type 0 where
  pub text : NoReturn t
  pub quiet : (b : G.Board) → G.decision_in b t ≡ None

-- commands that are no decisions
abbrev pub AllQuiet : Game → List (List ℕ) → Type 0
AllQuiet G [] = Unit {0}
AllQuiet G (t ∷ ts) = IsQuiet G t × AllQuiet G ts

-- boards that are alike: one is like itself, and so on
pub record IsLikeness {A : Type 0} (like : A → A → Bool) : Type 0 where
  pub like_itself : (a : A) → like a a ≡ true
  pub like_back : (a b : A) → like a b ≡ true → like b a ≡ true
  pub like_on : (a b c : A) → like a b ≡ true → like b c ≡ true → like a c ≡ true

-- a game that keeps its laws
pub record Lawful (G : Game) : Type 0 where
  -- lines of a stream: with more bytes there are more lines, and what follows a line end reads alone
  pub empty : G.lines [] ≡ []
  pub grow : (s t : List ℕ) → (later : List G.Line) × (G.lines (s ++ t) ≡ G.lines s ++ later)
  pub alone : (t s : List ℕ) → G.lines (on_wire t ++ s) ≡ G.lines (on_wire t) ++ G.lines s
  -- to be of one game is an equivalence, and boards that differ are of two
  pub likeness : IsLikeness G.like
  pub differ : (a b : G.Board) → G.Differ a b → G.like a b ≡ false
  -- what a test finds, the relation has
  pub good_means : (b : G.Board) → G.good b ≡ true → G.Good b
  pub allowed_means : (b : G.Board) (d : G.Decision) → G.good b ≡ true → G.allows b d ≡ None → G.Good b × G.Legal b d
  -- an allowed decision is the user's, and it has an effect, which is seen
  pub allowed_decides : (b : G.Board) (d : G.Decision) → G.allows b d ≡ None → G.decides b ≡ true
  pub allowed_acts : (b : G.Board) (d : G.Decision) (d1 d2 : ℕ) → G.good b ≡ true → G.allows b d ≡ None
      → G.is_die d1 ≡ true → G.is_die d2 ≡ true
      → (b' : G.Board) × (G.effect b d d1 d2 ≡ Some b') × (G.good b' ≡ true) × (G.like b b' ≡ false)
  -- what has an effect leads to a board that differs
  pub effect_leads : (b : G.Board) (d : G.Decision) (d1 d2 : ℕ) (b' : G.Board) → G.effect b d d1 d2 ≡ Some b'
      → G.Leads b d d1 d2 b'
  pub leads_on : (b : G.Board) (d : G.Decision) (d1 d2 : ℕ) (b' : G.Board) → G.Leads b d d1 d2 b' → G.Differ b b'
  -- no three decisions are carried out one after another
  pub no_three : (a b c after : G.Board) (d e f : G.Decision) (d1 d2 e1 e2 f1 f2 : ℕ) → G.Leads a d d1 d2 b
      → G.Leads b e e1 e2 c → G.Leads c f f1 f2 after → ⊥
  -- no decision leads to a board at which a standing order rolls
  pub no_roll : (b : G.Board) (d : G.Decision) (d1 d2 : ℕ) (b' : G.Board) → G.Leads b d d1 d2 b' → G.rolls b' ≡ false
  -- a decision's text is read as that decision, and no other command's text as one
  pub reads_back : (b : G.Board) (d : G.Decision) → G.good b ≡ true → G.allows b d ≡ None
      → G.decision_in b (G.command b d) ≡ Some d
  pub decision_text : (b : G.Board) (d : G.Decision) → G.good b ≡ true → G.allows b d ≡ None
      → NoReturn (G.command b d)
  pub style_quiet : IsQuiet G G.style
  pub plain_quiet : (p : G.Plain) → G.plain_fault p ≡ None → IsQuiet G (G.plain p)
  pub info_quiet : (m : G.Info) → AllQuiet G (G.initial m)
  -- the first of a connection calls for three commands at most
  pub few_initial : (m : G.Info) → length (G.initial m) ≤ 3
  -- a printed board gives one line, which reads as that board
  pub prints_line : (b : G.Board) → G.good b ≡ true
      → (l : G.Line) × (G.lines (on_wire (G.spelling b)) ≡ l ∷ []) × (G.says (G.reading l) ≡ shows b)
