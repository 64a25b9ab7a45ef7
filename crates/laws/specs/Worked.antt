-- Stresses that were worked out by hand.
use Rattle.std.specs.Prelude.{◌≡◌, [], ◌∷◌, ℤ, pos, neg_ℤ}
use Rattle.laws.specs.declared.point.Point.{Point}
use Rattle.laws.specs.TwoLine.{two_line}
use Rattle.laws.specs.Points.{point_stress}

-- modulus 6,500,000 psi, plateaus 17,000 psi in compression and 850 psi in tension
abbrev pub concrete : ℤ → ℤ
concrete strain = two_line 6500000 17000 850 strain

abbrev pub at : ℤ → ℤ → Point
at strain stress = record { strain = strain; stress = stress }

-- nothing at zero, 230,000 psi at 8,000,000 nano, 245,000 psi at 10,000,000 nano
abbrev pub strand : ℤ → ℤ
strand strain = point_stress (at (pos 0) (pos 0) ∷ at (pos 8000000) (pos 230000) ∷ at (pos 10000000) (pos 245000) ∷ []) strain

-- on the line near zero, just before and just on the tension plateau, just before and just on the compression plateau
pub record Worked : Type 0 where
  pub nothing_yet : concrete (pos 153) ≡ pos 0
  pub first_psi : concrete (pos 154) ≡ pos 1
  pub toward_zero : concrete (neg_ℤ (pos 1000)) ≡ neg_ℤ (pos 6)
  pub below_cracking : concrete (pos 130769) ≡ pos 849
  pub at_cracking : concrete (pos 130770) ≡ pos 850
  pub above_crushing : concrete (neg_ℤ (pos 2615384)) ≡ neg_ℤ (pos 16999)
  pub at_crushing : concrete (neg_ℤ (pos 2615385)) ≡ neg_ℤ (pos 17000)
  -- halfway between the last two points, and before the first
  pub halfway : strand (pos 9000000) ≡ pos 237500
  pub slack : strand (neg_ℤ (pos 5)) ≡ pos 0
