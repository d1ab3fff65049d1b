-- What a player's seat does for a typed line.
use Rattle.std.specs.Prelude.{◌≡◌, ◌⊎◌, ◌<◌, ◌≤◌, ℕ, Bool, true, false, List, [], ◌∷◌, length, Option, Some, None}
use Rattle.std.specs.Io.KnownBytes.{Appends, Keeps}
use Rattle.std.specs.declared.io.ErrorKind.{ErrorKind}
use Rattle.fibs_messages.specs.Message.{MessageValue}
use Rattle.fibs_messages.specs.Directory.{IsDirectory}
use Rattle.fibs_session.specs.History.Machine.{Talk, Open, step, is_online, on_wire}
use Rattle.fibs_session.specs.Calls.Standing.{ClientValue, StandsAfter}
use Rattle.fibs_connect.specs.declared.turns.Ending.{Ending}
use Rattle.fibs_connect.specs.Told.{SaidValue, refused_said, unknown_said, opened_said, no_connection_said, passed_said}
use Rattle.fibs_game.specs.declared.refusal.Refusal.TheVariants.{AlreadyOpen, Offline}
use Rattle.fibs_engine.specs.Writing.{Wrote, Broken}
use Rattle.fibs_connect.specs.Turns.Script.{outside}
use Rattle.fibs_connect.specs.Turns.Turn.{TurnedBy, Ended, still_given}
use Rattle.fibs_connect.specs.Converse.Players.{players_told}
use Rattle.fibs_connect.specs.Wishes.{WishValue, connects, lists_players, ends, is_too_long, takes_turn, passes, is_answered, typed_limit}
use Rattle.fibs_connect.specs.declared.seat.Going.{Going}
use Rattle.fibs_connect.specs.declared.seat.Going.TheVariants.{On, Away}

-- a seat: the client, the players that it knows, and the connection, with what it has left to read and what was
-- written there, if the prover knows it
pub record SeatValue : Type 0 where
  pub client : ClientValue
  pub players : List MessageValue
  pub connected : Bool
  pub left : Option (List ℕ)
  pub wrote : Option (List ℕ)

-- the value of a seat, by that of its client, of its directory and of its stream, if there is one
abbrev pub seat_of : {S : Type 0} → (S → Option (List ℕ)) → (S → Option (List ℕ)) → ClientValue → List MessageValue
    → Option S → SeatValue
seat_of remaining contents client players None =
    record { client = client; players = players; connected = false; left = None; wrote = None }
seat_of remaining contents client players (Some s) = record {
  client = client;
  players = players;
  connected = true;
  left = remaining s;
  wrote = contents s;
}

-- a turn of the client with the connection, if there is one, as `exchange` makes it; a connection that is lost is given
-- up
pub record TakesTurn {F : Type 0} (Tells : F → List SaidValue → F → Type 0) (said : Option (List ℕ)) (a b : SeatValue)
    (held now : F) : Type 0 where
  pub ending : Ending
  pub left : Option (List ℕ)
  pub wrote : Option (List ℕ)
  pub turned : (t : Talk) → StandsAfter a.client t → is_online t ≡ a.connected →
      TurnedBy Tells t b.client said a.left left (outside a.wrote held a.players) (outside wrote now b.players) ending
  pub connected : b.connected ≡ still_given ending a.connected
  pub left_as : b.connected ≡ true → b.left ≡ left
  pub wrote_as : b.connected ≡ true → b.wrote ≡ wrote

-- if there is a connection the wish for another is refused
abbrev pub Refuses : {F : Type 0} → (F → List SaidValue → F → Type 0) → SeatValue → SeatValue → F → F → Type 0
Refuses Tells a b held now = (b ≡ a) × Tells held (refused_said AlreadyOpen ∷ []) now

-- the client has opened a connection
abbrev pub Opens : ClientValue → ClientValue → Type 0
Opens old new = (t : Talk) → StandsAfter old t → StandsAfter new (step t Open).talk

-- its login was not written whole: the connection is reported, and then that it is over
pub record OpensAndLoses {F : Type 0} (Tells : F → List SaidValue → F → Type 0) (old new : ClientValue) (held now : F) :
    Type 0 where
  pub mid : F
  pub ending : Ending
  pub told : Tells held (opened_said ∷ []) mid
  pub ended : (t : Talk) → StandsAfter old t → (wrote : Option (List ℕ)) → (players : List MessageValue) →
      Ended Tells Broken (step t Open).talk new (outside wrote mid players) (outside wrote now players) ending

-- a new connection is reported, and no player is known on it; if its login was not written whole it is over. If no
-- connection can be made that is reported, and nothing else happens
abbrev pub Connects : {F : Type 0} → (F → List SaidValue → F → Type 0) → SeatValue → SeatValue → F → F → Type 0
Connects Tells a b held now =
    (b.connected ≡ true → Tells held (opened_said ∷ []) now × Opens a.client b.client × IsDirectory [] b.players)
    × (b.connected ≡ false → (OpensAndLoses Tells a.client b.client held now × IsDirectory [] b.players)
    ⊎ ((b ≡ a) × ((why : ErrorKind) × Tells held (no_connection_said why ∷ []) now)))

-- a seat on whose connection something was written
abbrev pub written : SeatValue → Option (List ℕ) → Option (List ℕ) → SeatValue
written a left wrote =
    record { client = a.client; players = a.players; connected = a.connected; left = left; wrote = wrote }

-- a line was written as it is and that is reported, and then the client takes a turn without it, as if nothing had
-- been written
pub record Passed {F : Type 0} (Tells : F → List SaidValue → F → Type 0) (line : List ℕ) (a b : SeatValue)
    (held now : F) : Type 0 where
  pub left : Option (List ℕ)
  pub wrote : Option (List ℕ)
  pub mid : F
  pub apart : Keeps a.left left
  pub writes : Appends a.wrote wrote (on_wire line)
  pub told : Tells held (passed_said line ∷ []) mid
  pub turn : TakesTurn Tells None (written a left wrote) b mid now

-- it was not written whole, and that ends the connection
pub record Unpassed {F : Type 0} (Tells : F → List SaidValue → F → Type 0) (line : List ℕ) (a b : SeatValue)
    (held now : F) : Type 0 where
  pub wrote : Option (List ℕ)
  pub writes : Wrote Broken a.wrote wrote (on_wire line)
  pub ending : Ending
  pub ended : (t : Talk) → StandsAfter a.client t →
      Ended Tells Broken t b.client (outside wrote held a.players) (outside wrote now b.players) ending
  pub over : b.connected ≡ false

-- a line is sent as it is, or it is reported why not
abbrev pub PassesOn : {F : Type 0} → (F → List SaidValue → F → Type 0) → List ℕ → SeatValue → SeatValue → F → F → Type 0
PassesOn Tells line a b held now = Passed Tells line a b held now ⊎ Unpassed Tells line a b held now

-- a line is sent to the server as it is, if it is not too long and there is a connection
abbrev pub Passes : {F : Type 0} → (F → List SaidValue → F → Type 0) → List ℕ → SeatValue → SeatValue → F → F → Type 0
Passes Tells line a b held now = (typed_limit < length line → (b ≡ a) × Tells held (unknown_said ∷ []) now)
    × (length line ≤ typed_limit → a.connected ≡ false → (b ≡ a) × Tells held (refused_said Offline ∷ []) now)
    × (length line ≤ typed_limit → a.connected ≡ true → PassesOn Tells line a b held now)

-- a wish was answered: the seat before and after, the front end before and after, and whether the conversation goes on
abbrev pub Answered : {F : Type 0} → (F → List SaidValue → F → Type 0) → WishValue → SeatValue → SeatValue → F → F
    → Going → Type 0
Answered Tells connects a b held now going = (a.connected ≡ true → Refuses Tells a b held now)
    × (a.connected ≡ false → Connects Tells a b held now) × (going ≡ On)
Answered Tells lists_players a b held now going = (b ≡ a) × Tells held (players_told a.players) now × (going ≡ On)
Answered Tells ends a b held now going = (b ≡ a) × (now ≡ held) × (going ≡ Away)
Answered Tells is_too_long a b held now going = (b ≡ a) × Tells held (unknown_said ∷ []) now × (going ≡ On)
Answered Tells (takes_turn said) a b held now going = TakesTurn Tells said a b held now × (going ≡ On)
Answered Tells (passes line) a b held now going = Passes Tells line a b held now × (going ≡ On)
Answered Tells is_answered a b held now going = (b ≡ a) × (now ≡ held) × (going ≡ On)
