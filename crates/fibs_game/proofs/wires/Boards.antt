-- What the client hears of the lines that the server sends, in whatever pieces their bytes come.
use Rattle.std.proofs.Common.{◌≡◌, ℕ, true, false, List, [], ◌∷◌, ◌++◌, flat_map, take, drop, length, refl, sym, ◌∙◌, ap, append-nil, append_assoc, true≢false, take-append-drop}
use Rattle.std.proofs.Math.Seq.{drop-append_seam}
use Rattle.std.proofs.lemmas.List.Concat.{flat_map-append}
use Rattle.fibs_game.specs.Words.{one_if}
use Rattle.fibs_game.specs.Wires.{Link}
use Rattle.fibs_game.specs.Refusals.{is_board_text, reads_as_board}
use Rattle.fibs_game.specs.Machine.{on_wire, gained}
use Rattle.fibs_game.specs.Game.{Game, Says, welcomes, informs, shows, says_nothing}
use Rattle.fibs_game.specs.Hearing.{line_says}
use Rattle.fibs_game.specs.Lawful.{Lawful}

module _ (G : Game) where
  -- the good board that a line says
  abbrev pub board_of : (Says G.Board G.Info) → List G.Board
  board_of (shows b) = one_if (G.good b) b
  board_of x = []

  -- the good boards of lines
  abbrev pub boards : List G.Line → List G.Board
  boards ls = flat_map (λ l. board_of (line_says G l)) ls

  -- bytes that are whole lines
  abbrev pub Whole : List ℕ → Type 0
  Whole bytes = (ts : List (List ℕ)) × (bytes ≡ flat_map on_wire ts)

  -- the boards that the client has not noted yet: those of lines that it is hearing, and of lines on their way
  abbrev pub waiting : List G.Board → Link → List G.Board
  waiting hearing l = hearing ++ boards (gained G l.heard l.coming)

  -- no bytes are whole lines
  pub whole_none : Whole []
  whole_none = ([], refl)

  module _ (law : Lawful G) where
    -- the lines of more bytes are those before and those gained
    pub lines_gained : (a b : List ℕ) → G.lines (a ++ b) ≡ G.lines a ++ gained G a b
    lines_gained a b =
        let f = law.grow a b in
        let d : gained G a b ≡ f.0 = ap (drop (length (G.lines a))) f.1 ∙ drop-append_seam (G.lines a) f.0 in
        f.1 ∙ ap (λ l. G.lines a ++ l) (sym d)

    -- and only they are gained
    gained_is : (a b : List ℕ) (ls : List G.Line) → G.lines (a ++ b) ≡ G.lines a ++ ls → gained G a b ≡ ls
    gained_is a b ls h = ap (drop (length (G.lines a))) h ∙ drop-append_seam (G.lines a) ls

    -- what follows whole lines is read as if it were alone
    whole_then : (ts : List (List ℕ)) (y : List ℕ)
        → G.lines (flat_map on_wire ts ++ y) ≡ G.lines (flat_map on_wire ts) ++ G.lines y
    whole_then [] y = ap (λ l. l ++ G.lines y) (sym law.empty)
    whole_then (t ∷ ts) y =
        ap G.lines (append_assoc (on_wire t) (flat_map on_wire ts) y)
        ∙ (law.alone t (flat_map on_wire ts ++ y))
        ∙ ap (λ l. G.lines (on_wire t) ++ l) (whole_then ts y)
        ∙ sym (append_assoc (G.lines (on_wire t)) (G.lines (flat_map on_wire ts)) (G.lines y))
        ∙ ap (λ l. l ++ G.lines y) (sym (law.alone t (flat_map on_wire ts)))

    -- one more line on the wire is gained after the others
    pub gained_more : (a b t : List ℕ) → Whole (a ++ b) → gained G a (b ++ on_wire t) ≡ gained G a b ++ G.lines
        (on_wire t)
    gained_more a b t h = gained_is a (b ++ on_wire t) _
        (ap G.lines (sym (append_assoc a b (on_wire t)))
        ∙ ap (λ l. G.lines (l ++ on_wire t)) h.1
        ∙ whole_then h.0 (on_wire t)
        ∙ ap (λ l. G.lines l ++ G.lines (on_wire t)) (sym h.1)
        ∙ ap (λ l. l ++ G.lines (on_wire t)) (lines_gained a b)
        ∙ append_assoc (G.lines a) (gained G a b) (G.lines (on_wire t)))

    -- what is gained in two pieces
    pub gained_split : (a b : List ℕ) (n : ℕ) → gained G a b ≡ gained G a (take n b) ++ gained G (a ++ take n b)
        (drop n b)
    gained_split a b n = gained_is a b _
        (ap (λ l. G.lines (a ++ l)) (sym (take-append-drop n b))
        ∙ ap G.lines (sym (append_assoc a (take n b) (drop n b)))
        ∙ lines_gained (a ++ take n b) (drop n b)
        ∙ ap (λ l. l ++ gained G (a ++ take n b) (drop n b)) (lines_gained a (take n b))
        ∙ append_assoc (G.lines a) (gained G a (take n b)) (gained G (a ++ take n b) (drop n b)))

    -- no bytes gain no line
    pub gained_none : (a : List ℕ) → gained G a [] ≡ []
    gained_none a = gained_is a [] [] (ap G.lines (append-nil a) ∙ sym (append-nil (G.lines a)))

    -- one more line after whole lines
    pub whole_more : (a b t : List ℕ) → Whole (a ++ b) → Whole (a ++ (b ++ on_wire t))
    whole_more a b t h = (
      h.0 ++ t ∷ [],
      sym (append_assoc a b (on_wire t)) ∙ ap (λ l. l ++ on_wire t) h.1
          ∙ ap (λ l. flat_map on_wire h.0 ++ l) (sym (append-nil (on_wire t)))
          ∙ sym (flat_map-append on_wire h.0 (t ∷ [])),
    )

    -- the same bytes, more of them delivered
    pub whole_split : (a b : List ℕ) (n : ℕ) → Whole (a ++ b) → Whole ((a ++ take n b) ++ drop n b)
    whole_split a b n h = (h.0, append_assoc a (take n b) (drop n b) ∙ ap (λ l. a ++ l) (take-append-drop n b) ∙ h.1)

    -- the boards on a wire after one more line
    pub boards_more : (a b t : List ℕ) (bs : List G.Board) → Whole (a ++ b) → boards (G.lines (on_wire t)) ≡ bs
        → boards (gained G a (b ++ on_wire t)) ≡ boards (gained G a b) ++ bs
    boards_more a b t bs h k =
        ap (boards) (gained_more a b t h)
        ∙ flat_map-append (λ l. board_of (line_says G l)) (gained G a b) (G.lines (on_wire t))
        ∙ ap (λ l. boards (gained G a b) ++ l) k

    -- the boards gained in two pieces
    pub boards_split : (a b : List ℕ) (n : ℕ)
        → boards (gained G a b) ≡ boards (gained G a (take n b)) ++ boards (gained G (a ++ take n b) (drop n b))
    boards_split a b n = ap (boards) (gained_split a b n)
        ∙ flat_map-append (λ l. board_of (line_says G l)) (gained G a (take n b)) (gained G (a ++ take n b) (drop n b))

    -- a printed board gives that board
    pub printed : (b : G.Board) → G.good b ≡ true → boards (G.lines (on_wire (G.spelling b))) ≡ b ∷ []
    printed b h =
        let p = law.prints_line b h in
        ap (boards) p.1 ∙ append-nil _ ∙ ap (board_of) p.2 ∙ ap (λ t. one_if t b) h

    -- what does not read as a good board gives no board
    no_board : (x : (Says G.Board G.Info)) → reads_as_board G x ≡ false → board_of x ≡ []
    no_board (shows b) h = ap (λ t. one_if t b) h
    no_board welcomes h = refl
    no_board (informs m) h = refl
    no_board says_nothing h = refl

    -- an accepted text gives none
    pub text_boards : (ls : List G.Line) → is_board_text G ls ≡ false → boards ls ≡ []
    text_boards [] h = refl
    text_boards (l ∷ []) h = append-nil _ ∙ no_board (line_says G l) h
    text_boards (l ∷ m ∷ ls) h = absurd (true≢false h)
