-- The words of a terminal, which the client does not know (the project's own).
use Rattle.std.specs.Prelude.{◌≡◌, ◌⊎◌, ℕ, List, codes}
use Rattle.fibs_fields.specs.Split.{before}
use Rattle.fibs_terminal.specs.declared.commands.Here.{Here}
use Rattle.fibs_terminal.specs.declared.commands.Here.TheVariants as H
use Rattle.fibs_terminal.specs.declared.commands.Own.{Own}
use Rattle.fibs_terminal.specs.declared.commands.Own.TheVariants as O

-- a word that the terminal answers itself
abbrev pub name_of : Here → List ℕ
name_of H.Help = codes "help"
name_of H.Plays = codes "plays"
name_of H.Words = codes "words"
name_of H.Players = codes "players"
name_of H.Gag = codes "gag"
name_of H.Ungag = codes "ungag"
name_of H.Quiet = codes "quiet"
name_of H.Loud = codes "loud"
name_of H.Arrivals = codes "arrivals"
name_of H.Talk = codes "talk"
name_of H.Moves = codes "moves"
name_of H.Matches = codes "matches"
name_of H.Reconnect = codes "reconnect"
name_of H.Stay = codes "stay"
name_of H.Fix = codes "fix"
name_of H.Columns = codes "columns"
name_of H.Rows = codes "rows"
name_of H.Board = codes "board"
name_of H.Numbers = codes "numbers"

-- a word of the terminal
abbrev pub own_name : Own → List ℕ
own_name (O.Here here) = name_of here
own_name O.Re = codes "re"
own_name O.Try = codes "try"
own_name O.Go = codes "go"

-- a line is a word of the conversation, or begins with a word of the terminal
abbrev pub IsOwn : List ℕ → Type 0
IsOwn line = (line ≡ codes "quit") ⊎ ((line ≡ codes "open") ⊎ ((own : Own) × (before 32 line ≡ own_name own)))
