-- A place has its own number by the player's own numbers, and that is the server's, counted from the other end.
use Rattle.std.proofs.Common.{◌≡◌, ◌≤◌, ◌-◌, ℕ, refl, arith}
use Rattle.fibs_position.specs.NumbersOf.{OwnNumbersAreTurned}
use Rattle.fibs_position.specs.declared.direction.Direction.TheVariants.{Down, Up}

-- a place that is counted from the other end twice is the place
turned_twice : (place : ℕ) → place ≤ 25 → place ≡ 25 - (25 - place)
turned_twice place small = omega (arith, small)

-- a place has its own number, which is the server's, counted from the other end if the player goes up by that
pub own_numbers_are_turned : OwnNumbersAreTurned
own_numbers_are_turned Down place small = (refl, refl)
own_numbers_are_turned Up place small = (refl, turned_twice place small)
