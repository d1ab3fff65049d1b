-- What messages say of the user and of his opponent (that message 1 greets the user, that messages 2 and 5 list
-- ratings, that messages 3 and 4 are around the message of the day, and that message 8 is a logout CLIP 1008).
use Rattle.std.specs.Prelude.{◌≡◌, ◌⊎◌, ◌≢◌, ◌==◌, ◌||◌, ℕ, List, [], ◌∷◌, Option, Some, None, true, false, if◌then◌else◌}
use Rattle.std.specs.Str.{bytes_eq}
use Rattle.fibs_fields.specs.Bytes.{name_bytes}
use Rattle.fibs_fields.specs.Field.{FieldValue, NumberField, RatingField}
use Rattle.fibs_fields.specs.declared.name.Name.{Name}
use Rattle.fibs_messages.specs.Directory.{name_of}
use Rattle.fibs_messages.specs.Message.{MessageValue}
use Rattle.fibs_events.specs.Happenings.{nothing}
use Rattle.fibs_events.specs.Remembered.{greeted, not_invited, rated, rating_of, said_of_day}
use Rattle.fibs_events.specs.declared.event.Event.{Event}
use Rattle.fibs_events.specs.declared.event.Event.TheVariants as E
use Rattle.fibs_events.specs.declared.event.Side.{Side}
use Rattle.fibs_events.specs.declared.event.Side.TheVariants as S
use Rattle.fibs_events.specs.declared.happened.Happened.{Happened}
use Rattle.fibs_events.specs.declared.memory.Events.{Events}

-- the side whose rating a message lists, by the name that it has; no other player's is followed
abbrev pub side_listed : List ℕ → Events → Option Side
side_listed name e =
    if bytes_eq e.name.items name then Some S.Own
    else if bytes_eq e.opponent.items name then Some S.Other else None

-- the rating of a side is remembered, if it is one of them
abbrev pub rated_side : Option Side → ℕ → Events → Events
rated_side None rating e = e
rated_side (Some who) rating e = rated who rating e

-- a rating is told if another one was known before
abbrev pub changed_from : Option ℕ → Side → ℕ → ℕ → Option Event
changed_from None who rating experience = None
changed_from (Some before) who rating experience =
    if before == rating then None else Some (E.RatingChanged who rating experience)

-- the rating of a side that is told, if it is one of them
abbrev pub changed_of : Option Side → ℕ → ℕ → Events → Option Event
changed_of None rating experience e = None
changed_of (Some who) rating experience e = changed_from (rating_of who e) who rating experience

-- the first rating among fields: the player's, in messages 2 and 5
abbrev pub first_rating : List FieldValue → ℕ
first_rating [] = 0
first_rating (RatingField n ∷ fields) = n
first_rating (field ∷ fields) = first_rating fields

-- the first number among fields: the points of the matches that the player has played, in messages 2 and 5
abbrev pub first_number : List FieldValue → ℕ
first_number [] = 0
first_number (NumberField n ∷ fields) = n
first_number (field ∷ fields) = first_number fields

-- what is remembered once a message was heard: by its number, and the player with whom it begins
abbrev pub after_message : MessageValue → Events → Events
after_message m e =
    if m.number == 1 then greeted (name_of m) e
    else if m.number == 2 || m.number == 5 then rated_side (side_listed (name_of m) e) (first_rating m.fields) e
    else if m.number == 3 then said_of_day true e
    else if m.number == 4 then said_of_day false e
    else if m.number == 8 then not_invited (name_of m) e
    else e

-- a message lists a rating
abbrev pub ListsRating : MessageValue → Type 0
ListsRating m = (m.number ≡ 2) ⊎ (m.number ≡ 5)

-- a message is heard: what is remembered then, and what is told
pub record HearsMessage (m : MessageValue) (old new : Events) (told : Option Event) : Type 0 where
  pub remembered : new ≡ after_message m old
  pub greets : m.number ≡ 1 → (name : Name) × (told ≡ Some (E.LoggedIn name)) × (name_bytes name ≡ name_of m)
  pub rates : ListsRating m
      → told ≡ changed_of (side_listed (name_of m) old) (first_rating m.fields) (first_number m.fields) old
  pub others : m.number ≢ 1 → ¬ ListsRating m → told ≡ None

-- the same, and nothing else has happened
abbrev pub IsMessageHeard : MessageValue → Events → Events → Happened → Type 0
IsMessageHeard m old new happened =
    HearsMessage m old new happened.said × (happened ≡ record nothing { said = happened.said })
