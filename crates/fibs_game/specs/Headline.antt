-- The headline: what holds after every list of events. It speaks of the log of the whole list.
--
--     Over every list of opens, clicks, deliveries in any cut, server steps, losses and logins, the decisions that take
--     effect on each connection, with the positions that they change, are a prefix of those sent there with the boards
--     then shown: each legal, each answering its own click or a standing order given there, at most the last missing,
--     none once a differing board is shown.
use Rattle.std.specs.Prelude.{◌≡◌, ℕ, ◌+◌, ◌<◌, ◌≤◌, Bool, true, false, List, [], ◌∷◌, ◌++◌, Option, Some, None, if◌then◌else◌, nat_eq, length, slice_index}
use Rattle.fibs_game.specs.declared.refusal.Refusal.{Refusal}
use Rattle.fibs_game.specs.Game.{Game}
use Rattle.fibs_game.specs.Log.{Entry, Opened, LoggedIn, Welcomed, Informed, Shown, Clicked, Sent, Took, Undone, Lost, Ordered, Withdrawn}
use Rattle.fibs_game.specs.Orders.{is_due}
use Rattle.fibs_game.specs.Words.{Ask, last, open_now, shown, sent, took, unconfirmed, answer}
use Rattle.fibs_game.specs.Wires.{next_line}
use Rattle.fibs_game.specs.World.{World}

-- the first list is a prefix of the second
abbrev pub IsPrefixOf : {A : Type 0} → List A → List A → Type 0
IsPrefixOf {A} xs ys = (rest : List A) × (xs ++ rest ≡ ys)

-- each of the decisions was allowed by the rules on its board, which is good
abbrev pub AllLegal : (G : Game) → List (Ask G) → Type 0
AllLegal G [] = Unit {0}
AllLegal G (a ∷ rest) = G.Good a.0 × G.Legal a.0 a.1 × AllLegal G rest

-- each of the boards is good
abbrev pub AllGood : (G : Game) → List G.Board → Type 0
AllGood G [] = Unit {0}
AllGood G (b ∷ rest) = G.Good b × AllGood G rest

module _ {G : Game} where
  -- `sent c log` and `took c log` are the pairs (board, decision) of the Sent and of the Took entries of c, in order.

  -- the places in the log of the entries that a test picks, counted from n
  abbrev pub places : (Entry G → Bool) → ℕ → List (Entry G) → List ℕ
  places p n [] = []
  places p n (e ∷ later) = if p e then n ∷ places p (n + 1) later else places p (n + 1) later

  -- the entry is a Sent of c,
  abbrev pub is_sent : ℕ → Entry G → Bool
  is_sent c (Sent d b m) = nat_eq d c
  is_sent c e = false

  -- or a Took
  abbrev pub is_took : ℕ → Entry G → Bool
  is_took c (Took d b m) = nat_eq d c
  is_took c e = false

  -- the i-th Took of c comes after the i-th Sent of c, which is there
  abbrev pub InOrder : ℕ → List (Entry G) → Type 0
  InOrder c log =
      (i : ℕ) → i < length (took c log)
      → (i < length (sent c log))
      × (slice_index (places (is_sent c) 0 log) i < slice_index (places (is_took c) 0 log) i)

  -- what a Sent answers, after the log before it: a click there of this decision that was answered by yes, or, if it
  -- is a roll, a board shown there, this one, at which a standing order of that connection was due
  pub data Answers (c : ℕ) (b : G.Board) : List (Entry G) → G.Decision → Type 0 where
    its_click : (before : List (Entry G)) (d : G.Decision) → Answers c b (before ++ Clicked c d None ∷ []) d
    its_order : (before : List (Entry G)) → c ≡ open_now before → is_due c (before ++ Shown c b ∷ []) b ≡ true
        → Answers c b (before ++ Shown c b ∷ []) G.roll

  -- each decision sent comes directly after what it answers
  abbrev pub AllAnswerTheirs : List (Entry G) → Type 0
  AllAnswerTheirs log =
      (before later : List (Entry G)) (c : ℕ) (b : G.Board) (d : G.Decision) → log ≡ before ++ Sent c b d ∷ later
      → Answers c b before d

  -- the next entry is this decision, sent on c
  abbrev pub SentNext : ℕ → G.Decision → List (Entry G) → Type 0
  SentNext c d later = (b : G.Board) × (rest : List (Entry G)) × (later ≡ Sent c b d ∷ rest)

  -- each click that was answered by yes is directly followed by its decision,
  abbrev pub AllClicksSent : List (Entry G) → Type 0
  AllClicksSent log =
      (before later : List (Entry G)) (c : ℕ) (d : G.Decision) → log ≡ before ++ Clicked c d None ∷ later
      → SentNext c d later

  -- and each board at which a standing order is due by a roll
  abbrev pub AllOrdersSent : List (Entry G) → Type 0
  AllOrdersSent log =
      (before later : List (Entry G)) (c : ℕ) (b : G.Board) → log ≡ before ++ Shown c b ∷ later
      → is_due c (before ++ Shown c b ∷ []) b ≡ true → SentNext c G.roll later

  -- each decision was sent with the board that was the last one shown before it on that connection
  abbrev pub AllOnShown : List (Entry G) → Type 0
  AllOnShown log =
      (before later : List (Entry G)) (c : ℕ) (b : G.Board) (d : G.Decision) → log ≡ before ++ Sent c b d ∷ later
      → last (shown c before) ≡ Some b

  -- If a board is shown that differs from the board of a decision that was sent before it on that connection, all that
  -- was sent there up to that decision took effect.
  abbrev pub AllMovedOn : List (Entry G) → Type 0
  AllMovedOn log =
      (before between later : List (Entry G)) (c : ℕ) (b now : G.Board) (d : G.Decision)
      → log ≡ before ++ Sent c b d ∷ (between ++ Shown c now ∷ later) → G.Differ b now
      → IsPrefixOf (sent c (before ++ Sent c b d ∷ [])) (took c log)

  -- no entry is Undone
  abbrev pub NoneUndone : List (Entry G) → Type 0
  NoneUndone [] = Unit {0}
  NoneUndone (Undone c b d ∷ later) = ⊥
  NoneUndone (e ∷ later) = NoneUndone later

  -- each click is of the connection that is open before it (0 if none is), and carries the answer of the log before it
  abbrev pub AllAnswered : List (Entry G) → Type 0
  AllAnswered log =
      (before later : List (Entry G)) (c : ℕ) (d : G.Decision) (a : Option Refusal)
      → log ≡ before ++ Clicked c d a ∷ later
      → (c ≡ open_now before) × (a ≡ answer before d)

  -- the number of an entry's connection
  abbrev pub conn_of : Entry G → ℕ
  conn_of (Opened c) = c
  conn_of (LoggedIn c) = c
  conn_of (Welcomed c) = c
  conn_of (Informed c f) = c
  conn_of (Shown c b) = c
  conn_of (Clicked c d a) = c
  conn_of (Sent c b d) = c
  conn_of (Took c b d) = c
  conn_of (Undone c b d) = c
  conn_of (Lost c u) = c
  conn_of (Ordered c) = c
  conn_of (Withdrawn c) = c

  -- none of them is above n
  abbrev pub AllAtMost : ℕ → List (Entry G) → Type 0
  AllAtMost n [] = Unit {0}
  AllAtMost n (e ∷ later) = (conn_of e ≤ n) × AllAtMost n later

  -- a connection is open and logged in, all lines that it sent were served, and all bytes sent to it were delivered
  pub record IsAtRest (w : World G) : Type 0 where
    pub some : 0 < w.logged_in
    pub is_open : open_now w.log ≡ w.logged_in
    pub all_served : next_line (w.links w.logged_in).asked ≡ None
    pub all_delivered : (w.links w.logged_in).coming ≡ []

  -- what holds of the world after a list of events
  pub record Headline (w : World G) : Type 0 where
    -- The decisions that take effect on each connection, with the positions that they change, are a prefix of those
    -- sent there with the boards then shown:
    pub prefix : (c : ℕ) → IsPrefixOf (took c w.log) (sent c w.log)
    -- each takes effect after it was sent;
    pub order : (c : ℕ) → InOrder c w.log
    -- the board of each decision sent is the last one shown before it on that connection;
    pub on_shown : AllOnShown w.log
    -- each is legal;
    pub legal : (c : ℕ) → AllLegal G (sent c w.log)
    -- each answers its own click or a standing order given there: it comes directly after its click, or, a roll, after
    -- the board at which the order is due;
    pub own : AllAnswerTheirs w.log
    -- each click answered by yes is directly followed by its decision,
    pub clicks_sent : AllClicksSent w.log
    -- and each board at which a standing order is due by a roll;
    pub orders_sent : AllOrdersSent w.log
    -- at most the last is missing;
    pub at_most_one : (c : ℕ) → length (sent c w.log) ≤ length (took c w.log) + 1
    -- and none once a differing board is shown.
    pub moved_on : AllMovedOn w.log
    -- Beside it: no served decision changed nothing;
    pub none_undone : NoneUndone w.log
    -- each board shown is good;
    pub shown_good : (c : ℕ) → AllGood G (shown c w.log)
    -- no connection's number is above the number of entries;
    pub numbers : AllAtMost (length w.log) w.log
    -- each click carries the answer of the log before it;
    pub answered : AllAnswered w.log
    -- and at rest nothing waits.
    pub at_rest : IsAtRest w → unconfirmed w.logged_in w.log ≡ None
