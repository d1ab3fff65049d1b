-- A list of players that is coming (the project's own).
use Rattle.std.specs.Prelude.{◌==◌, ◌&&◌, ◌||◌, ℕ, Bool, true, false, List, codes, nat_lt, if◌then◌else◌}
use Rattle.std.specs.Str.{bytes_eq}
use Rattle.fibs_fields.specs.Split.{before}
use Rattle.fibs_terminal.specs.declared.people.List.{List as PlayerList}
use Rattle.fibs_terminal.specs.declared.people.ListAsked.{ListAsked}
use Rattle.fibs_terminal.specs.declared.people.ListAsked.TheVariants as A

-- the user has asked for nothing that has not come
abbrev pub asks_nothing : ListAsked → Bool
asks_nothing A.Nothing = true
asks_nothing asked = false

-- he logs in
abbrev pub asks_by_login : ListAsked → Bool
asks_by_login A.Login = true
asks_by_login asked = false

-- he has asked for all players
abbrev pub asks_for_all : ListAsked → Bool
asks_for_all A.Everybody = true
asks_for_all asked = false

-- he has asked for some of them
abbrev pub asks_for_some : ListAsked → Bool
asks_for_some A.Some = true
asks_for_some asked = false

-- what is asked for after a line that went as it is
abbrev pub after_passed : List ℕ → ListAsked → ListAsked
after_passed line asked = if bytes_eq (before 32 line) (codes "who") then A.Some else asked

-- players were listed since the last list ended
abbrev pub is_coming : PlayerList → Bool
is_coming l = nat_lt 0 l.count

-- it is the list of the login: not one player alone who has changed, unless he is the user
abbrev pub is_of_login : PlayerList → List ℕ → Bool
is_of_login l own = asks_by_login l.asked && (nat_lt 1 l.count || ((l.count == 1) && bytes_eq l.name.items own))

-- it is that of all players for which the user has asked
abbrev pub is_of_everybody : PlayerList → Bool
is_of_everybody l = asks_for_all l.asked && nat_lt 1 l.count

-- a list has ended: nobody is listed, and what was asked for has come, unless a single player has changed before it
abbrev pub after_end : PlayerList → PlayerList
after_end l = record l {
  count = 0;
  asked = if nat_lt 1 l.count || asks_for_some l.asked then A.Nothing else l.asked;
}
