-- What a kit's answer tells of the number of a material.
use Rattle.std.proofs.Common.{◌≡◌, ℕ, List, ℤ, pos, negsuc, nat_abs, Some, None, Option, refl, ap, subst, arith}
use Rattle.std.specs.Int.{FitsUnsignedBits}
use Rattle.std.specs.Option.{option_map}
use Rattle.std.proofs.lemmas.Int.{ints, by_lt_z}
use Rattle.laws.specs.Meaning.{Meaning}
use Rattle.laws.specs.declared.law.Limits.{Limits}
use Rattle.kits.specs.Kits.{numbered, reached, limits_of, limits_at}
use Rattle.kits.proofs.Reaching.{numbered_past}

absent : (law : Option Meaning) → None ≡ option_map limits_of law → law ≡ None
absent None h = refl
absent (Some law) h = cc

present : (law : Option Meaning) (limits : Limits) → Some limits ≡ option_map limits_of law → (m : Meaning) × (law ≡ Some m)
present None limits h = cc
present (Some law) limits h = (law, refl)

-- a number that fits a byte is that byte
byte_is : (material : ℤ) (n : ℕ) → FitsUnsignedBits 8 material → n ≡ nat_abs material → pos n ≡ material
byte_is (pos m) n fits same = ap pos same
byte_is (negsuc m) n fits same = absurd fits

module _ (laws : List Meaning) where
  -- no number of a kit lies outside a byte
  pub no_byte : (material : ℤ) → (FitsUnsignedBits 8 material → ⊥) → numbered laws material ≡ None
  no_byte (pos m) h = numbered_past laws (pos m) (by_lt_z (pos m) (pos 256) (λ low. absurd (h (omega (arith, ints)))) (λ high. omega (arith, ints)))
  no_byte (negsuc m) h = refl

  module _ (material : ℤ) (n : ℕ) (fits : FitsUnsignedBits 8 material) (same : n ≡ nat_abs material) where
    pub no_law : None ≡ limits_at laws n → numbered laws material ≡ None
    no_law h = subst (λ z. numbered laws z ≡ None) (byte_is material n fits same) (absent (reached laws n) h)

    pub some_law : (limits : Limits) → Some limits ≡ limits_at laws n → (law : Meaning) × (numbered laws material ≡ Some law)
    some_law limits h = subst (λ z. (law : Meaning) × (numbered laws z ≡ Some law)) (byte_is material n fits same) (present (reached laws n) limits h)
