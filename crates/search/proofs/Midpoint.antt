-- Where the midpoint of two points lies. Assumes nothing.
use Rattle.std.proofs.Common.{ℤ, pos, negsuc, ◌+ℤ◌, ◌-ℤ◌, ◌≤ℤ◌, ◌<ℤ◌, arith, w32, w64, SFits}
use lib.Signed.{quot_z}
use Rattle.std.proofs.lemmas.Int.{ints}

half_between : (d : ℤ) → pos 0 <ℤ d → (pos 0 ≤ℤ quot_z d (pos 2)) × (quot_z d (pos 2) <ℤ d)
half_between (pos n) h = (omega (arith, ints), omega (arith, ints))
half_between (negsuc n) h = absurd (omega (arith, ints))

module _ (low high : ℤ) (f : SFits w32 low) (g : SFits w32 high) (h : low <ℤ high) where
  half_in : (pos 0 ≤ℤ quot_z (high -ℤ low) (pos 2)) × (quot_z (high -ℤ low) (pos 2) <ℤ (high -ℤ low))
  half_in = half_between (high -ℤ low) (omega (arith, ints))

  pub middle_in : (low ≤ℤ (low +ℤ quot_z (high -ℤ low) (pos 2))) × ((low +ℤ quot_z (high -ℤ low) (pos 2)) <ℤ high)
  middle_in = let i = half_in in (omega (arith, ints, i.0), omega (arith, ints, i.1))

  pub half_fits : SFits w64 (quot_z (high -ℤ low) (pos 2))
  half_fits = let i = half_in in omega (arith, ints, i.0, i.1)
