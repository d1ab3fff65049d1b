-- Who invites the user to a match: the server's text (FIBS), and what a terminal says in its place (the project's own).
use Rattle.std.specs.Prelude.{◌==◌, ◌++◌, ℕ, List, [], codes, decimal, take, Option, Some, None, if◌then◌else◌}
use Rattle.fibs_fields.specs.Rating.{printed_rating}
use Rattle.fibs_wording.specs.declared.invitations.Offered.{Offered}
use Rattle.fibs_wording.specs.declared.invitations.Offered.TheVariants as O

-- what the text says after the name: before the number of points, if there is one, the number, and after it
abbrev pub said_before : Offered → List ℕ
said_before (O.Points points) = codes "wants to play a "
said_before O.Unlimited = codes "wants to play an unlimited match with you."
said_before O.Saved = codes "wants to resume a saved match with you."

-- the number of points of an invitation, if it has one
abbrev pub said_points : Offered → List ℕ
said_points (O.Points points) = decimal points
said_points offered = []

-- what follows the number
abbrev pub said_after : Offered → List ℕ
said_after (O.Points points) = codes " point match with you."
said_after offered = []

-- what is offered, in the words of the server
abbrev pub offer_said : Offered → List ℕ
offer_said offered = said_before offered ++ (said_points offered ++ said_after offered)

-- the text of the server
abbrev pub invitation_said : List ℕ → Offered → List ℕ
invitation_said name offered = name ++ (codes " " ++ offer_said offered)

-- how many points
abbrev pub points_words : ℕ → List ℕ
points_words points = if points == 1 then codes "1 point" else decimal points ++ codes " points"

-- to what one is invited
abbrev pub offer_words : Offered → List ℕ
offer_words (O.Points points) = codes " invites you to " ++ points_words points
offer_words O.Unlimited = codes " invites you to an unlimited match"
offer_words O.Saved = codes " invites you to resume your saved match"

-- the experience of a player
unfoldable pub experience_words : ℕ → List ℕ
experience_words experience = codes ", experience " ++ (decimal experience ++ codes ")")

-- the rating before it
unfoldable pub known_words : ℕ → ℕ → List ℕ
known_words rating experience = codes " (" ++ (printed_rating rating ++ experience_words experience)

-- both, if the server has listed the player
abbrev pub rated_words : Option (ℕ × ℕ) → List ℕ
rated_words None = []
rated_words (Some rated) = known_words rated.0 rated.1

-- what is said: of a name the first 24 bytes
abbrev pub invitation_words : List ℕ → Option (ℕ × ℕ) → Offered → List ℕ
invitation_words name rated offered = take 24 name ++ (rated_words rated ++ offer_words offered)
