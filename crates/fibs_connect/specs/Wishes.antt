-- What a typed line asks for (the project's own): three words are the conversation's, all others go to the client.
use Rattle.std.specs.Prelude.{ℕ, List, [], ◌∷◌, Option, Some, None, cond, codes, length, nat_lt}
use Rattle.std.specs.Str.{bytes_eq}
use Rattle.fibs_connect.specs.declared.wish.Wish.{Wish}
use Rattle.fibs_connect.specs.declared.wish.Wish.TheVariants as W

-- how many bytes a line may have, without its end
abbrev pub typed_limit : ℕ
typed_limit = 4096

-- what a typed line asks for
pub data WishValue : Type 0 where
  connects : WishValue  -- the conversation connects again
  lists_players : WishValue  -- it lists the players
  ends : WishValue  -- it ends
  is_too_long : WishValue  -- the line is too long
  takes_turn : Option (List ℕ) → WishValue  -- the client takes a turn, with this line or without one
  passes : List ℕ → WishValue  -- this line goes to the server as it is, and then the client takes a turn without one
  is_answered : WishValue  -- the front end has answered by itself

-- an empty line only hears the server
abbrev pub said_line : List ℕ → Option (List ℕ)
said_line [] = None
said_line (b ∷ line) = Some (b ∷ line)

-- for the plain account, which has no word for a line that goes as it is
abbrev pub wish_of : List ℕ → WishValue
wish_of line =
    cond (bytes_eq line (codes "open")) connects
    (cond (bytes_eq line (codes "players")) lists_players
    (cond (bytes_eq line (codes "quit")) ends
    (cond (nat_lt typed_limit (length line)) is_too_long
    (takes_turn (said_line line)))))

-- a wish of the program as one of these, with the line
abbrev pub wish_value : Wish → List ℕ → WishValue
wish_value W.Open line = connects
wish_value W.Players line = lists_players
wish_value W.Quit line = ends
wish_value W.TooLong line = is_too_long
wish_value W.Listen line = takes_turn None
wish_value W.Say line = takes_turn (Some line)
wish_value W.Send line = passes line
wish_value W.Answered line = is_answered
