-- A session's fields as values, and what a history says of each. No public contract opens it.
use Rattle.std.specs.Prelude.{◌≡◌, ℕ, Bool, false, not, List, Option, nat_eq}
use Rattle.std.specs.Str.{bytes_eq}
use Rattle.fibs_fields.specs.Board.{BoardFields}
use Rattle.fibs_commands.specs.PlainCommands.{automove_off, greedy_off, plain_of}
use Rattle.fibs_session.specs.History.Log.{Flags}
use Rattle.fibs_session.specs.History.Words.{Ask, is_empty, last, open_now, shown, welcomed, informed, is_ordered, unconfirmed}
use Rattle.fibs_session.specs.History.Machine.{Talk, was_sent}
use Rattle.fibs_session.specs.History.Numbering.{Numbered}

-- what a session keeps
pub record SessionValue : Type 0 where
  pub login : List ℕ
  pub online : Bool
  pub welcomed : Bool
  pub flags : Option Flags  -- of the latest message 2
  pub automove_sent : Bool
  pub greedy_sent : Bool
  pub shown : Option BoardFields
  pub waiting : Option Ask
  pub ordered : Bool  -- a standing order is in force

-- a command that turns nothing off
pub record IsNoToggle (text : List ℕ) : Type 0 where
  pub no_automove : bytes_eq (plain_of automove_off) text ≡ false
  pub no_greedy : bytes_eq (plain_of greedy_off) text ≡ false

-- the fields are what the history says of the open connection, which is 0 offline: then nothing was noted of it
pub record At (v : SessionValue) (t : Talk) : Type 0 where
  pub conn : ℕ
  pub is_open : open_now t.log ≡ conn
  pub logs_in : v.login ≡ t.login
  pub no_toggle : IsNoToggle v.login
  pub has_connection : v.online ≡ not (nat_eq conn 0)
  pub has_welcome : v.welcomed ≡ not (is_empty (welcomed conn t.log))
  pub has_flags : v.flags ≡ last (informed conn t.log)
  pub automove_gone : v.automove_sent ≡ was_sent (plain_of automove_off) t.commands
  pub greedy_gone : v.greedy_sent ≡ was_sent (plain_of greedy_off) t.commands
  pub on_board : v.shown ≡ last (shown conn t.log)
  pub not_confirmed : v.waiting ≡ unconfirmed conn t.log
  pub has_order : v.ordered ≡ is_ordered conn t.log
  pub numbered : Numbered t.log
