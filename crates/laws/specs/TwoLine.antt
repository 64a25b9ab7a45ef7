-- The two-line law: a straight line through zero, cut off at a plateau on each side.
use Rattle.std.specs.Prelude.{◌≡◌, ℕ, ◌+◌, ◌*◌, ◌<◌, ◌≤◌, ℤ, pos, ◌*ℤ◌, neg_ℤ, ◌≤ℤ◌, int_div, unsigned_abs}
use Rattle.std.specs.Int.{int_max, int_min}
use Rattle.laws.specs.Meaning.{Meaning}

-- the modulus times the strain in whole psi, the fraction dropped toward zero
unfoldable pub elastic : ℕ → ℤ → ℤ
elastic modulus strain = int_div (pos modulus *ℤ strain) (pos 1000000000)

-- the elastic stress, but not above the tension plateau and not below minus the compression plateau
unfoldable pub two_line : ℕ → ℕ → ℕ → ℤ → ℤ
two_line modulus compression tension strain = int_max (int_min (elastic modulus strain) (pos tension)) (neg_ℤ (pos compression))

abbrev pub two_line_law : ℕ → ℕ → ℕ → ℕ → ℕ → Meaning
two_line_law modulus compression tension shortest longest =
    record { stress = two_line modulus compression tension; compression = shortest; tension = longest }

-- the elastic stress lies on neither plateau's far side
abbrev pub Between : ℕ → ℕ → ℕ → ℤ → Type 0
Between modulus compression tension strain = (neg_ℤ (pos compression) ≤ℤ elastic modulus strain) × (elastic modulus strain ≤ℤ pos tension)

-- what the definition comes to
pub record TwoLineShape (modulus compression tension : ℕ) : Type 0 where
  -- what is dropped of the elastic stress in tension is less than one psi
  pub whole : (n : ℕ) → (unsigned_abs (elastic modulus (pos n)) * 1000000000 ≤ modulus * n) × (modulus * n < (unsigned_abs (elastic modulus (pos n)) + 1) * 1000000000)
  pub zero : two_line modulus compression tension (pos 0) ≡ pos 0
  -- between the plateaus, as much in compression as in tension
  pub odd : (z : ℤ) → Between modulus compression tension z → Between modulus compression tension (neg_ℤ z) → two_line modulus compression tension (neg_ℤ z) ≡ neg_ℤ (two_line modulus compression tension z)
  pub rises : (y z : ℤ) → y ≤ℤ z → two_line modulus compression tension y ≤ℤ two_line modulus compression tension z
  pub low : (z : ℤ) → neg_ℤ (pos compression) ≤ℤ two_line modulus compression tension z
  pub high : (z : ℤ) → two_line modulus compression tension z ≤ℤ pos tension
