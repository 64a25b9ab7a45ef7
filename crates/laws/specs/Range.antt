-- Which numbers lie in a range from 1, and what a conversion into it answers.
use Rattle.std.specs.Prelude.{◌≡◌, ℕ, ℤ, pos, ◌≤ℤ◌, Ok, Err, Result}
use Rattle.laws.specs.declared.up_to.UpTo.{UpTo}
use Rattle.laws.specs.declared.up_to.OutOfRange.{OutOfRange}

-- from 1 to the greatest, both ends counted
abbrev pub Within : ℕ → ℤ → Type 0
Within most z = (pos 1 ≤ℤ z) × (z ≤ℤ pos most)

abbrev pub FromOneTo : (most : ℕ) → ℤ → Result (UpTo most) OutOfRange → Type 0
FromOneTo most z (Ok n) = pos n.number ≡ z
FromOneTo most z (Err e) = Within most z → ⊥
