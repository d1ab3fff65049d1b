-- What answers the commands that a client sends by itself at a login (the texts of FIBS; else the project's own).
use Rattle.std.specs.Prelude.{◌≡◌, ◌++◌, ◌∷◌, ◌&&◌, ◌||◌, ℕ, Bool, true, false, not, List, [], codes, if◌then◌else◌}
use Rattle.std.specs.Str.{bytes_eq}
use Rattle.fibs_commands.specs.FirstCommands.{autoboard_text, board_text, moreboards_text}
use Rattle.fibs_messages.specs.Message.{message_of}
use Rattle.fibs_messages.specs.declared.message.Message.TheVariants.{OwnInfo as TheOwnInfo}
use Rattle.fibs_messages.specs.declared.message.OwnInfo.{OwnInfo}
use Rattle.fibs_session.specs.Fibs.{initial_commands}
use Rattle.fibs_terminal.specs.declared.listening.greeting.Greeting.{Greeting}

-- nothing was sent
abbrev pub new_greeting : Greeting
new_greeting = record {
  is_informed = false;
  style = false;
  autoboard = false;
  moreboards = false;
  board = false;
  is_listed = false;
  is_said = false;
  plays_itself = false;
}

-- the answer to `set boardstyle 3`
abbrev pub tells_style : List ℕ → Bool
tells_style said = bytes_eq said (codes "Value of 'boardstyle' set to 3.")

-- the answer to `toggle autoboard`, which was off
abbrev pub tells_autoboard : List ℕ → Bool
tells_autoboard said = bytes_eq said (codes "** The board will be refreshed after every move.")

-- the answer to `toggle moreboards`, which was off
abbrev pub tells_moreboards : List ℕ → Bool
tells_moreboards said = bytes_eq said (codes "** Will send rawboards after rolling.")

-- the answer to `board` of a user who is in no match
abbrev pub says_not_playing : List ℕ → Bool
says_not_playing said = bytes_eq said (codes "** You're not playing.")
    || (bytes_eq said (codes "** You are not playing.")
    || (bytes_eq said (codes "** You're not watching or playing.")
    || bytes_eq said (codes "** Error: you are not playing.")))

-- a text answers a command that the client has sent by itself and that was not answered: it is that answer whole
abbrev pub is_answered : Greeting → List ℕ → Bool
is_answered g said = (g.style && tells_style said)
    || ((g.autoboard && tells_autoboard said)
    || ((g.moreboards && tells_moreboards said)
    || (g.board && says_not_playing said)))

-- the row that ends the login is due: the players are listed, `board` is answered, and it was not said
abbrev pub is_due : Greeting → Bool
is_due g = g.is_listed && (not g.board && not g.is_said)

-- the commands that are not answered of those that the client sends at the first message 2
abbrev pub awaited : Greeting → List (List ℕ)
awaited g =
    (if g.autoboard then autoboard_text ∷ [] else [])
    ++ (if g.moreboards then moreboards_text ∷ [] else [])
    ++ (if g.board then board_text ∷ [] else [])

-- nothing but what is asked for has changed
abbrev pub IsAsking : Greeting → Greeting → Type 0
IsAsking g next = next ≡ record g {
  is_informed = true;
  autoboard = next.autoboard;
  moreboards = next.moreboards;
  board = next.board;
  plays_itself = next.plays_itself;
}

-- by the first message 2 the answers are awaited of all that the client sends then, and of nothing else; a later one
-- changes nothing
pub record Informs (g : Greeting) (info : OwnInfo) (next : Greeting) : Type 0 where
  pub later : g.is_informed ≡ true → next ≡ g
  pub first : g.is_informed ≡ false → awaited next ≡ initial_commands (message_of (TheOwnInfo info))
  pub plays : g.is_informed ≡ false → next.plays_itself ≡ (info.automove || info.greedy)
  pub rest : g.is_informed ≡ false → IsAsking g next

-- no answer is awaited that was not awaited before, and nothing but what is awaited changes
pub record IsHeard (g : Greeting) (next : Greeting) : Type 0 where
  pub style : next.style ≡ true → g.style ≡ true
  pub autoboard : next.autoboard ≡ true → g.autoboard ≡ true
  pub moreboards : next.moreboards ≡ true → g.moreboards ≡ true
  pub board : next.board ≡ true → g.board ≡ true
  pub rest : next ≡ record g {
    style = next.style;
    autoboard = next.autoboard;
    moreboards = next.moreboards;
    board = next.board;
  }
