-- What the client's own machine says of the newest connection, as events happen.
use Rattle.std.specs.Prelude.{◌≡◌, ℕ, List, [], ◌∷◌, ◌++◌, Option, Some, None, take}
use Rattle.fibs_game.specs.Game.{Game}
use Rattle.fibs_game.specs.Log.{Entry}
use Rattle.fibs_game.specs.Machine.{InputValue, step, noted, wire_of}
use Rattle.fibs_game.specs.MachineLaws.{IsServers}
use Rattle.fibs_game.specs.Events.{Event, Lose}
use Rattle.fibs_game.specs.Talks.{IsWorld, input_of}
use Rattle.fibs_game.specs.World.{World, start, after, talk_of}
use Rattle.fibs_game.specs.Refusals.{refusal}

-- which of the bytes on their way to the server an event leaves there
abbrev pub left_of : {G : Game} → Event G → List ℕ → List ℕ
left_of (Lose k) bytes = take k bytes
left_of e bytes = bytes

-- each of the entries is the server's
abbrev pub AllServers : {G : Game} → List (Entry G) → Type 0
AllServers [] = Unit {0}
AllServers (e ∷ es) = IsServers _ e × AllServers es

-- an input: the client's machine makes its step, and what it hands out goes on the wire
pub record Steps {G : Game} (login : List ℕ) (w w' : World G) (e : Event G) (i : InputValue G) : Type 0 where
  pub talk : talk_of login w' ≡ (step (talk_of login w) i).talk
  pub asked : (w'.links w'.count).asked ≡ left_of e (w.links w'.count).asked ++ wire_of (step (talk_of login w) i).send

-- the server's events: only entries of the server are noted
pub record Silence {G : Game} (login : List ℕ) (w w' : World G) : Type 0 where
  pub entries : List (Entry G)
  pub are_servers : AllServers entries
  pub talk : talk_of login w' ≡ noted (talk_of login w) entries []

-- what an event says of the client's machine: its step if it is an input, else silence
abbrev pub Follows : {G : Game} → List ℕ → World G → Event G → Option (InputValue G) → Type 0
Follows login w e (Some i) = Steps login w (after login w e) e i
Follows login w e None = Silence login w (after login w e)

-- the client's machine is a projection of the world's
pub record TalkIsProjected (G : Game) : Type 0 where
  pub starts : (b : G.Board) → IsWorld {G = G} (start b)
  pub goes_on : (login : List ℕ) (w : World G) (e : Event G) → IsWorld w → refusal w e ≡ None
      → IsWorld (after login w e) × Follows login w e (input_of w e)
