-- What a terminal remembers of a game that the user watches (the project's own).
use Rattle.std.specs.Prelude.{◌≡◌, ◌≤◌, ◌||◌, ◌++◌, ℕ, Bool, true, false, List, codes, nat_eq, take, Option, Some, None, if◌then◌else◌}
use Rattle.std.specs.List.{starts_with}
use Rattle.std.specs.Str.{bytes_eq}
use Rattle.fibs_fields.specs.Board.{BoardFields, field_of}
use Rattle.fibs_position.specs.WatchedOf.{watched_of}
use Rattle.fibs_position.specs.declared.watched_board.WatchedBoard.{WatchedBoard}
use Rattle.fibs_picture.specs.InWords.Rows.{Says}
use Rattle.fibs_picture.specs.declared.in_words.told.Told.TheVariants as T
use Rattle.fibs_wording.specs.declared.environment.settings.Settings.{Settings}
use Rattle.fibs_terminal.specs.OwnRows.{own_columns}
use Rattle.fibs_terminal.specs.declared.drawing.watching.Watching.{Watching}
use Rattle.fibs_terminal.specs.declared.drawing.watching.Wanted.{Wanted}
use Rattle.fibs_terminal.specs.declared.drawing.watching.Wanted.TheVariants as W

-- a board of the game is to be asked for
abbrev pub is_wanted : Wanted → Bool
is_wanted W.Board = true
is_wanted W.Nothing = false
is_wanted W.IfWatched = false

-- and after that was said it is not: it is asked for once
abbrev pub after_asking : Wanted → Wanted
after_asking W.Board = W.Nothing
after_asking W.Nothing = W.Nothing
after_asking W.IfWatched = W.IfWatched

-- after a line that went as it is: `unwatch` ends it, and `watch NAME` asks for a board, if the server says that the
-- user watches
abbrev pub passed_watching : List ℕ → Watching → Watching
passed_watching line w = record w {
  is_ending = if bytes_eq line (codes "unwatch") then true else w.is_ending;
  wanted = if starts_with nat_eq line (codes "watch ") then W.IfWatched else w.wanted;
}

-- a player is one of those who are watched, by the board that came last
abbrev pub is_watched : List ℕ → Option WatchedBoard → Bool
is_watched name None = false
is_watched name (Some w) = bytes_eq (watched_of w).player name || bytes_eq (watched_of w).opponent name

-- on two boards all checkers are on the same places or off, of a game with one opponent
pub record SamePlaces (a b : BoardFields) : Type 0 where
  pub places : (n : ℕ) → 7 ≤ n → n ≤ 32 → field_of a n ≡ field_of b n
  pub own_off : field_of a 46 ≡ field_of b 46
  pub other_off : field_of a 47 ≡ field_of b 47
  pub opponent : a.opponent ≡ b.opponent

-- two boards are of the same players, seen from the same side
abbrev pub IsSamePair : BoardFields → BoardFields → Type 0
IsSamePair a b = (a.player ≡ b.player) × (a.opponent ≡ b.opponent)

-- a board is drawn though the user has not asked for it: none was drawn before it, or a checker is elsewhere than on
-- that one, or the players are others
abbrev pub IsDrawnWatched : Option WatchedBoard → BoardFields → Type 0
IsDrawnWatched None b = Unit {0}
IsDrawnWatched (Some drawn) b = ¬ (SamePlaces (watched_of drawn) b × IsSamePair (watched_of drawn) b)

-- a board was drawn, or told in words, if the user wants those
abbrev pub drawn_watching : Settings → WatchedBoard → Watching → Watching
drawn_watching s watched w = record w {
  drawn = Some watched;
  told = if s.words then Some (T.Watched watched s.numbers) else None;
}

-- nothing changes of what was drawn
abbrev pub StaysDrawn : Watching → Watching → Type 0
StaysDrawn old new = (new.drawn ≡ old.drawn) × (new.told ≡ old.told)

-- the players of a board: 22 bytes of a name at most
abbrev pub pair_words : BoardFields → List ℕ
pair_words b = take 22 b.player ++ (codes " and " ++ take 22 b.opponent)

-- whom the user watches, by a board, and what ends it
abbrev pub watch_words : BoardFields → List ℕ
watch_words b = codes "You watch " ++ (pair_words b ++ codes ": unwatch ends it.\n")

-- it is said as long as he watches, and has not sent `unwatch`
abbrev pub SaysWatched : Settings → Option WatchedBoard → Bool → List ℕ → List ℕ → Type 0
SaysWatched s (Some watched) false before after = Says (own_columns s) (watch_words (watched_of watched)) before after
SaysWatched s heard is_ending before after = after ≡ before
