-- A decision takes effect at most once: what one event makes of the server's board, and what a list of events does (the
-- project's own).
use Rattle.std.specs.Prelude.{◌≡◌, ◌⊎◌, ℕ, true, List, [], ◌∷◌, ◌++◌, None, All, flat_map}
use Rattle.fibs_game.specs.Game.{Game}
use Rattle.fibs_game.specs.Log.{Entry, Took}
use Rattle.fibs_game.specs.Events.{Event, Serve, Own}
use Rattle.fibs_game.specs.Refusals.{refusal}
use Rattle.fibs_game.specs.Runs.{world_after}
use Rattle.fibs_game.specs.World.{World, after}

-- no two of the boards are of the same game
abbrev pub NoTwoAlike : (G : Game) → List G.Board → Type 0
NoTwoAlike G [] = Unit {0}
NoTwoAlike G (b ∷ later) = All (G.Differ b) later × NoTwoAlike G later

module _ {G : Game} where
  -- the boards on which decisions took effect, on whatever connection
  abbrev pub taken_by : Entry G → List G.Board
  taken_by (Took c b d) = b ∷ []
  taken_by e = []

  -- the same, of all entries
  abbrev pub taken_on : List (Entry G) → List G.Board
  taken_on entries = flat_map taken_by entries

  -- the server's board stays as it is, and no decision is noted as one that took effect
  pub record Leaves (w w' : World G) : Type 0 where
    pub board : w'.board ≡ w.board
    pub noted : List (Entry G)
    pub log : w'.log ≡ w.log ++ noted
    pub none : taken_on noted ≡ []

  -- A decision takes effect on the server's board: only that is noted, the board becomes the one to which the decision
  -- leads with the dice of the event, and the new board is of another game.
  pub record Takes (w w' : World G) (e : Event G) : Type 0 where
    pub conn : ℕ
    pub die : ℕ
    pub other_die : ℕ
    pub event : e ≡ Serve conn die other_die
    pub decision : G.Decision
    pub log : w'.log ≡ w.log ++ Took conn w.board decision ∷ []
    pub leads : G.Leads w.board decision die other_die w'.board
    pub differs : G.Differ w.board w'.board

  -- none of the events is a board of the server's own
  abbrev pub NoneOwn : List (Event G) → Type 0
  NoneOwn [] = Unit {0}
  NoneOwn (Own b ∷ later) = ⊥
  NoneOwn (e ∷ later) = NoneOwn later

  -- of the decisions that took effect between one world and a later one, no two did so on boards of the same game
  pub record TakesOnce (w w' : World G) : Type 0 where
    pub noted : List (Entry G)
    pub log : w'.log ≡ w.log ++ noted
    pub once : NoTwoAlike G (taken_on noted)

  -- Of the decisions that take effect, on whatever connections, no two do so on boards of the same game, unless a board
  -- of the server's own comes between them.
  abbrev pub Once : List ℕ → G.Board → List (Event G) → Type 0
  Once login first events =
      (before between later : List (Event G)) → events ≡ before ++ (between ++ later) → NoneOwn between
      → TakesOnce (world_after login first before) (world_after login first (before ++ between))

-- While the user decides on the server's board, an event that is accepted leaves that board as it is, or one decision
-- takes effect on it.
abbrev pub OneStep : Game → Type 0
OneStep G =
    (login : List ℕ) (w : World G) (e : Event G) → G.decides w.board ≡ true → refusal w e ≡ None
    → Leaves w (after login w e) ⊎ Takes w (after login w e) e

-- it holds of every list of events
abbrev pub OnceHolds : Game → Type 0
OnceHolds G = (login : List ℕ) (first : G.Board) (events : List (Event G)) → Once login first events
