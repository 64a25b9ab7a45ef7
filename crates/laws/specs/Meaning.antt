-- What a law of a material means, and what makes one lawful.
use Rattle.std.specs.Prelude.{ℕ, ◌≤◌, ℤ, pos, neg_ℤ, ◌≤ℤ◌, FitsSigned}
use Rattle.std.specs.Int.{w32}

-- a strain at which a law can be asked: any signed 32-bit number of nano
abbrev pub Strain : ℤ → Type 0
Strain z = FitsSigned w32 z

-- the stress in psi at each strain, and the limits in nano
pub record Meaning : Type 0 where
  pub stress : ℤ → ℤ
  pub compression : ℕ
  pub tension : ℕ

-- a limit is 1 to 100,000,000 nano
abbrev pub Limit : ℕ → Type 0
Limit n = (1 ≤ n) × (n ≤ 100000000)

-- the stress stays within 300,000 psi and never falls as the strain rises; the limits stay in range
pub record Lawful (law : Meaning) : Type 0 where
  pub low : (z : ℤ) → Strain z → neg_ℤ (pos 300000) ≤ℤ law.stress z
  pub high : (z : ℤ) → Strain z → law.stress z ≤ℤ pos 300000
  pub rises : (y z : ℤ) → Strain y → Strain z → y ≤ℤ z → law.stress y ≤ℤ law.stress z
  pub compression_in : Limit law.compression
  pub tension_in : Limit law.tension
