-- What is said of a line that is no command (the project's own).
use Rattle.std.specs.Prelude.{◌≡◌, ◌++◌, ◌<◌, ◌≤◌, ℕ, List, codes, length, Option, Some, None}
use Rattle.fibs_wording.specs.Shown.{AddsShown}

-- of a command of the server that the client does not have, and that nothing follows
abbrev pub foreign_words : List ℕ → List ℕ
foreign_words word = codes "not a word of this client: send " ++ (word ++ codes " sends it as it is\n")

-- of a word by which people leave, which goes to no server
abbrev pub leaving_words : List ℕ
leaving_words = codes "quit ends the program, bye leaves the server\n"

-- of a word of which nobody can tell what was meant
abbrev pub unknown_words : List ℕ
unknown_words = codes "unknown: help lists the words\n"

-- what players call the answers to a double is known for that
pub record IsMeantBy (word : List ℕ) (meant : Option (List ℕ)) : Type 0 where
  pub take : word ≡ codes "take" → meant ≡ Some (codes "accept")
  pub pass : word ≡ codes "pass" → meant ≡ Some (codes "reject")
  pub drop : word ≡ codes "drop" → meant ≡ Some (codes "reject")

-- the word that was meant is offered in place of the one that was typed, which is shown before it
abbrev pub Offers : List ℕ → List ℕ → List ℕ → Type 0
Offers meant before after = (shown : List ℕ) × (after ≡ before ++ (shown ++ (codes ": " ++ (meant ++ codes "?\n"))))

-- if one was
abbrev pub OffersIfMeant : Option (List ℕ) → List ℕ → List ℕ → Type 0
OffersIfMeant None before after = after ≡ before ++ unknown_words
OffersIfMeant (Some meant) before after = Offers meant before after

-- what is said of such a word: it is never taken for the one that was meant
abbrev pub SaysMeant : List ℕ → List ℕ → List ℕ → Type 0
SaysMeant word before after = (meant : Option (List ℕ)) × IsMeantBy word meant × OffersIfMeant meant before after

-- what follows a word is shown behind it if it is short, and else left out
pub record ShowsRest (rest before after : List ℕ) : Type 0 where
  pub short : length rest ≤ 19 → AddsShown (before ++ codes " ") after
  pub long : 19 < length rest → after ≡ before ++ codes " .."

-- if anything does
abbrev pub ShowsIfAny : Option (List ℕ) → List ℕ → List ℕ → Type 0
ShowsIfAny None before after = after ≡ before
ShowsIfAny (Some rest) before after = ShowsRest rest before after

-- how a command of the server is sent that the client does not have, with what follows it
abbrev pub SaysForeign : List ℕ → Option (List ℕ) → List ℕ → List ℕ → Type 0
SaysForeign word rest before after = (said : List ℕ)
    × ShowsIfAny rest (before ++ codes "not a word of this client: send " ++ word) said
    × (after ≡ said ++ codes " sends it as it is\n")
