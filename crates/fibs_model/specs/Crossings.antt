-- What the events of a world give to its carrier.
use Rattle.std.specs.Prelude.{◌≡◌, ℕ, List, [], ◌∷◌, ◌++◌, Option, Some, None, take, if◌then◌else◌, nat_eq}
use Rattle.fibs_fields.specs.Board.{BoardFields}
use Rattle.fibs_session.specs.History.Words.{open_now}
use Rattle.fibs_session.specs.History.Machine.{on_wire}
use Rattle.fibs_model.specs.declared.carriers.carrier.Way.TheVariants.{ToServer, ToClient}
use Rattle.fibs_model.specs.Carrying.{Crossing, connected, crossed, closed}
use Rattle.fibs_model.specs.Events.{Event, Open, Click, Plain, Deliver, Lose, Serve, Own, Repeat, Text, Order, Withdraw}
use Rattle.fibs_model.specs.LinksOf.{link_at}
use Rattle.fibs_model.specs.Runs.{world_after}
use Rattle.fibs_model.specs.Wires.{next_line}
use Rattle.fibs_model.specs.World.{World, start, after}
use Rattle.fibs_model.specs.WorldOf.{WorldValue}

-- a line that is there crosses to the server, with its line end
abbrev pub line_crossed : Option (List ℕ × List ℕ) → List Crossing
line_crossed None = []
line_crossed (Some p) = crossed ToServer (on_wire p.0) ∷ []

-- the next line of a connection, if it is the open one; what is left of a lost one has crossed at the loss
abbrev pub line_crossings : (open_conn conn : ℕ) → List ℕ → List Crossing
line_crossings open_conn conn asked = if nat_eq conn open_conn then line_crossed (next_line asked) else []

-- those of an event, in the world of the machine
abbrev pub crossings_of : World → Event → List Crossing
crossings_of w Open = connected ∷ []
crossings_of w (Click d) = []
crossings_of w (Plain p) = []
crossings_of w (Deliver n) = crossed ToClient (take n (w.links (open_now w.log)).coming) ∷ []
crossings_of w (Lose k) = crossed ToServer (take k (w.links (open_now w.log)).asked) ∷ closed ∷ []
crossings_of w (Serve c d1 d2) = line_crossings (open_now w.log) c (w.links c).asked
crossings_of w (Own b) = []
crossings_of w Repeat = []
crossings_of w (Text t) = []
crossings_of w Order = []
crossings_of w Withdraw = []

-- and by the value of the program's
abbrev pub crossings_in : WorldValue → Event → List Crossing
crossings_in v Open = connected ∷ []
crossings_in v (Click d) = []
crossings_in v (Plain p) = []
crossings_in v (Deliver n) = crossed ToClient (take n (link_at v.links v.current).coming) ∷ []
crossings_in v (Lose k) = crossed ToServer (take k (link_at v.links v.current).asked) ∷ closed ∷ []
crossings_in v (Serve c d1 d2) = line_crossings v.current c (link_at v.links c).asked
crossings_in v (Own b) = []
crossings_in v Repeat = []
crossings_in v (Text t) = []
crossings_in v Order = []
crossings_in v Withdraw = []

-- those of several events, one after another
abbrev pub crossings_from : List ℕ → World → List Event → List Crossing
crossings_from login w [] = []
crossings_from login w (e ∷ es) = crossings_of w e ++ crossings_from login (after login w e) es

-- those of all events, from the first board on
unfoldable pub crossings : List ℕ → BoardFields → List Event → List Crossing
crossings login first events = crossings_from login (start first) events

-- at first there are no crossings, and each event adds its own, in the world after the events before it
pub record CrossingsJoin : Type 0 where
  pub at_first : (login : List ℕ) (first : BoardFields) → crossings login first [] ≡ []
  pub one_more : (login : List ℕ) (first : BoardFields) (events : List Event) (e : Event)
      → crossings login first (events ++ e ∷ [])
      ≡ crossings login first events ++ crossings_of (world_after login first events) e
