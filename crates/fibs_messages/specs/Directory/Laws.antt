-- Laws of directories: the contracts of functions in `laws`.
use Rattle.std.specs.Prelude.{◌≡◌, ◌≢◌, ◌++◌, ◌∷◌, [], List}
use Rattle.fibs_messages.specs.Message.{MessageValue}
use Rattle.fibs_messages.specs.Directory.{IsDirectory}

-- each list of messages has a directory
abbrev pub EachListHasADirectory : Type 0
EachListHasADirectory = (messages : List MessageValue) → (entries : List MessageValue) × IsDirectory messages entries

-- and no second one
abbrev pub NoListHasTwoDirectories : Type 0
NoListHasTwoDirectories =
    (messages entries others : List MessageValue)
    → IsDirectory messages entries → IsDirectory messages others → entries ≡ others

-- a message that is neither 5 nor 8 leaves the directory as it is
abbrev pub OtherMessagesChangeNothing : Type 0
OtherMessagesChangeNothing =
    (messages entries : List MessageValue) → (message : MessageValue) → message.number ≢ 5 → message.number ≢ 8
    → IsDirectory messages entries → IsDirectory (messages ++ message ∷ []) entries
