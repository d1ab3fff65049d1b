-- The world of the program, and the world of the machine to which it corresponds.
use Rattle.std.specs.Prelude.{◌≡◌, ◌≤◌, ℕ, List, length, map, vec_len, None}
use Rattle.fibs_session.specs.Calls.Standing.{ClientValue, StandsAfter}
use Rattle.fibs_session.specs.History.Log.{Entry}
use Rattle.fibs_session.specs.History.Words.{open_now}
use Rattle.fibs_game.specs.Talks.{IsWorld}
use Rattle.fibs_model.specs.EntryOf.{entry_of}
use Rattle.fibs_model.specs.Events.{Event}
use Rattle.fibs_model.specs.LinksOf.{LinkValue, kept_of, seen, link_at}
use Rattle.fibs_model.specs.Refusals.{refusal}
use Rattle.fibs_model.specs.Server.{ServerValue}
use Rattle.fibs_model.specs.World.{World, talk_of, after}
use Rattle.fibs_model.specs.declared.world.World.TheInside.{Inside}

-- what the value of a world of the program says
pub record WorldValue : Type 0 where
  pub server : ServerValue
  pub client : ClientValue
  -- those of the connections, from 1 on
  pub links : List LinkValue
  pub log : List Entry
  -- the connection that is open, or 0
  pub current : ℕ

-- the value of the program's world
abbrev pub world_of : Inside → WorldValue
world_of w = record {
  server = w.server;
  client = w.client;
  links = seen w.links.items;
  log = map entry_of w.log.items;
  current = w.current;
}

-- It corresponds to a world of the machine, for the command that logs the user in. Of each connection it has the bytes
-- that the machine has on their way, and whether the machine's server took a line. It does not have the bytes that were
-- taken: their room on a wire of the program is room for more.
pub record StandsFor (v : WorldValue) (login : List ℕ) (w : World) : Type 0 where
  pub board : v.server.board ≡ w.board
  pub logged_in : v.server.logged_in ≡ w.logged_in
  pub count : length v.links ≡ w.count
  pub log : v.log ≡ w.log
  pub current : v.current ≡ open_now w.log
  pub links : (c : ℕ) → kept_of (w.links c) ≡ link_at v.links c
  pub client : StandsAfter v.client (talk_of login w)
  pub sound : IsWorld w

-- it corresponds to some world
pub record IsKept (w : Inside) : Type 0 where
  pub known : w.current ≤ vec_len w.links
  pub login : List ℕ
  pub world : World
  pub stands : StandsFor (world_of w) login world

-- the event is not refused in any world to which it corresponds
abbrev pub May : WorldValue → Event → Type 0
May v e = (login : List ℕ) (w : World) → StandsFor v login w → refusal w e ≡ None

-- for each world to which it corresponded, it corresponds to the world after the event
abbrev pub Goes : WorldValue → WorldValue → Event → Type 0
Goes old new e = (login : List ℕ) (w : World) → StandsFor old login w → StandsFor new login (after login w e)
