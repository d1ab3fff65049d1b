-- What is said after a match: how another one is played (the project's own).
use Rattle.std.specs.Prelude.{◌≡◌, ◌||◌, ℕ, List, Bool, not, true, false, Option, Some, None, cond, nat_le}
use Rattle.fibs_advice.specs.declared.standing.Standing.{Standing}
use Rattle.fibs_advice.specs.declared.standing.Standing.TheVariants.{Free}
use Rattle.fibs_picture.specs.InWords.Rows.{Says}
use Rattle.fibs_wording.specs.Rematch.{rematch_words}
use Rattle.fibs_wording.specs.declared.matches.Score.{Score}
use Rattle.fibs_terminal.specs.declared.rematch.Rematch.{Rematch}

-- the points of a match with a score, if they are known and an invitation can have so many
abbrev pub points_of : Option Score → Option ℕ
points_of None = None
points_of (Some score) = cond (nat_le score.length 65535) (Some score.length) None

-- the same match, of which that was said
abbrev pub said : Rematch → Rematch
said r = record r { is_said = true }

-- how another match is played is said in a row that has room, if that is due
abbrev pub SaysIfDue : Bool → ℕ → Rematch → List ℕ → List ℕ → Type 0
SaysIfDue true columns r before after = Says columns (rematch_words r.opponent.items r.points) before after
SaysIfDue false columns r before after = after ≡ before

-- if a match has ended and the user is in none and is not invited, it is due once, and if he asks what is advised
abbrev pub SaysRematch : ℕ → Bool → Standing → Option Rematch → List ℕ → List ℕ → Type 0
SaysRematch columns inquired Free (Some r) before after =
    SaysIfDue (inquired || not r.is_said) columns r before after
SaysRematch columns inquired standing rematch before after = after ≡ before
