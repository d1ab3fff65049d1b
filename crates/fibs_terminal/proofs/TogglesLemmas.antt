-- A setting that is changed some times is as it was if these are even, and otherwise if they are odd.
use Rattle.std.proofs.Common.{◌≡◌, ◌%◌, ℕ, zero, suc, Bool, true, false, not, arith, refl, ◌∙◌}
use Rattle.fibs_terminal.specs.Toggles.{flipped}

-- a setting that is changed twice is as it was
not-twice : (on : Bool) → not (not on) ≡ on
not-twice true = refl
not-twice false = refl

-- an even number of changes
pub flipped-even : (n : ℕ) (on : Bool) → n % 2 ≡ 0 → flipped n on ≡ on
flipped-even zero on even = refl
flipped-even (suc zero) on even = absurd (omega (arith, even))
flipped-even (suc (suc n)) on even = not-twice (flipped n on) ∙ flipped-even n on (omega (arith, even))

-- an odd one
pub flipped-odd : (n : ℕ) (on : Bool) → n % 2 ≡ 1 → flipped n on ≡ not on
flipped-odd zero on odd = absurd (omega (arith, odd))
flipped-odd (suc zero) on odd = refl
flipped-odd (suc (suc n)) on odd = not-twice (flipped n on) ∙ flipped-odd n on (omega (arith, odd))
