-- The boards that the server sends on a connection stay the same while the user decides.
use Rattle.std.proofs.Common.{◌≡◌, ℕ, true, List, [], ◌∷◌, ◌++◌, refl, sym, ◌∙◌, subst}
use Rattle.fibs_game.specs.Acts.{Act, Shows, Says, Serves}
use Rattle.fibs_game.specs.Joint.{SameUntilServed, Steady}
use Rattle.fibs_game.specs.Game.{Game}

module _ (G : Game) where
  -- each board among the acts is b, and the server's is, until a decision is served
  abbrev pub SameTo : G.Board → G.Board → List (Act G) → Type 0
  SameTo now b [] = now ≡ b
  SameTo now b (Shows x ∷ later) = (x ≡ b) × SameTo now b later
  SameTo now b (Says t ∷ later) = SameTo now b later
  SameTo now b (Serves d ∷ later) = Unit {0}

  -- after each board in which the user decides
  abbrev pub SteadyTo : G.Board → List (Act G) → Type 0
  SteadyTo now [] = Unit {0}
  SteadyTo now (Shows b ∷ later) = (G.decides b ≡ true → SameTo now b later) × SteadyTo now later
  SteadyTo now (Says t ∷ later) = SteadyTo now later
  SteadyTo now (Serves d ∷ later) = SteadyTo now later

  -- the board may become this one: it is the same if the user decides
  abbrev pub Becomes : G.Board → G.Board → Type 0
  Becomes now next = G.decides now ≡ true → next ≡ now

  -- without the server's board
  pub same_rest : (now b : G.Board) (acts : List (Act G)) → SameTo now b acts → SameUntilServed b acts
  same_rest now b [] h = tt
  same_rest now b (Shows x ∷ later) h = (h.0, same_rest now b later h.1)
  same_rest now b (Says t ∷ later) h = same_rest now b later h
  same_rest now b (Serves d ∷ later) h = tt

  -- the boards are steady without it too
  pub steady_rest : (now : G.Board) (acts : List (Act G)) → SteadyTo now acts → Steady acts
  steady_rest now [] h = tt
  steady_rest now (Shows b ∷ later) h = (λ z. same_rest now b later (h.0 z), steady_rest now later h.1)
  steady_rest now (Says t ∷ later) h = steady_rest now later h
  steady_rest now (Serves d ∷ later) h = steady_rest now later h

  -- the server's board becomes another
  same_becomes : (now next b : G.Board) (acts : List (Act G)) → Becomes now next → G.decides b ≡ true
      → SameTo now b acts
      → SameTo next b acts
  same_becomes now next b [] m z h = m (subst (λ x. G.decides x ≡ true) (sym h) z) ∙ h
  same_becomes now next b (Shows x ∷ later) m z h = (h.0, same_becomes now next b later m z h.1)
  same_becomes now next b (Says t ∷ later) m z h = same_becomes now next b later m z h
  same_becomes now next b (Serves d ∷ later) m z h = tt

  -- and the boards stay steady, if the user does not decide
  pub steady_becomes : (now next : G.Board) (acts : List (Act G)) → Becomes now next → SteadyTo now acts
      → SteadyTo next acts
  steady_becomes now next [] m h = tt
  steady_becomes now next (Shows b ∷ later) m h =
      (λ z. same_becomes now next b later m z (h.0 z), steady_becomes now next later m h.1)
  steady_becomes now next (Says t ∷ later) m h = steady_becomes now next later m h
  steady_becomes now next (Serves d ∷ later) m h = steady_becomes now next later m h

  -- the server's board is sent
  same_shows : (now b : G.Board) (acts : List (Act G)) → SameTo now b acts → SameTo now b (acts ++ Shows now ∷ [])
  same_shows now b [] h = (h, h)
  same_shows now b (Shows x ∷ later) h = (h.0, same_shows now b later h.1)
  same_shows now b (Says t ∷ later) h = same_shows now b later h
  same_shows now b (Serves d ∷ later) h = tt

  -- and the boards stay steady
  pub steady_shows : (now : G.Board) (acts : List (Act G)) → SteadyTo now acts → SteadyTo now (acts ++ Shows now ∷ [])
  steady_shows now [] h = (λ z. refl, tt)
  steady_shows now (Shows b ∷ later) h = (λ z. same_shows now b later (h.0 z), steady_shows now later h.1)
  steady_shows now (Says t ∷ later) h = steady_shows now later h
  steady_shows now (Serves d ∷ later) h = steady_shows now later h

  -- another line is sent
  same_says : (now b : G.Board) (t : List ℕ) (acts : List (Act G)) → SameTo now b acts
      → SameTo now b (acts ++ Says t ∷ [])
  same_says now b t [] h = h
  same_says now b t (Shows x ∷ later) h = (h.0, same_says now b t later h.1)
  same_says now b t (Says u ∷ later) h = same_says now b t later h
  same_says now b t (Serves d ∷ later) h = tt

  -- and the boards stay steady with it
  pub steady_says : (now : G.Board) (t : List ℕ) (acts : List (Act G)) → SteadyTo now acts
      → SteadyTo now (acts ++ Says t ∷ [])
  steady_says now t [] h = tt
  steady_says now t (Shows b ∷ later) h = (λ z. same_says now b t later (h.0 z), steady_says now t later h.1)
  steady_says now t (Says u ∷ later) h = steady_says now t later h
  steady_says now t (Serves d ∷ later) h = steady_says now t later h

  -- a decision is served, and the server's board becomes any other
  same_serves : (now next b : G.Board) (d : G.Decision) (acts : List (Act G)) → SameTo now b acts
      → SameTo next b (acts ++ Serves d ∷ [])
  same_serves now next b d [] h = tt
  same_serves now next b d (Shows x ∷ later) h = (h.0, same_serves now next b d later h.1)
  same_serves now next b d (Says t ∷ later) h = same_serves now next b d later h
  same_serves now next b d (Serves e ∷ later) h = tt

  -- and from then on the boards may differ
  pub steady_serves : (now next : G.Board) (d : G.Decision) (acts : List (Act G)) → SteadyTo now acts
      → SteadyTo next (acts ++ Serves d ∷ [])
  steady_serves now next d [] h = tt
  steady_serves now next d (Shows b ∷ later) h =
      (λ z. same_serves now next b d later (h.0 z), steady_serves now next d later h.1)
  steady_serves now next d (Says t ∷ later) h = steady_serves now next d later h
  steady_serves now next d (Serves e ∷ later) h = steady_serves now next d later h
