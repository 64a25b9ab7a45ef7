-- The law of the tests: a height in compression below zero, and as much in tension from zero on.
use Rattle.std.specs.Prelude.{ℕ, ◌≤◌, cond, ℤ, pos, neg_ℤ, ◌≤ℤ◌, ◌<ℤ◌, int_lt}
use Rattle.std.proofs.Common.{arith}
use Rattle.std.proofs.lemmas.Int.{ints}
use Rattle.std.proofs.lemmas.Bool.{cond_both}
use Rattle.laws.specs.Meaning.{Meaning, Lawful}

abbrev pub step_stress : ℕ → ℤ → ℤ
step_stress height strain = cond (int_lt strain (pos 0)) (neg_ℤ (pos height)) (pos height)

abbrev pub step_law : ℕ → Meaning
step_law height = record { stress = step_stress height; compression = 50; tension = 30 }

module _ (height : ℕ) where
  by_side : (z : ℤ) (P : ℤ → Type 0) → (z <ℤ pos 0 → P (neg_ℤ (pos height))) → (pos 0 ≤ℤ z → P (pos height)) → P (step_stress height z)
  by_side z P below above = cond_both (int_lt z (pos 0)) (neg_ℤ (pos height)) (pos height) P (λ b. below (omega (arith, ints))) (λ b. above (omega (arith, ints)))

  pub step_lawful : height ≤ 300000 → Lawful (step_law height)
  step_lawful few = record {
    low = λ z f. by_side z (λ s. neg_ℤ (pos 300000) ≤ℤ s) (λ a. omega (arith, ints)) (λ a. omega (arith, ints));
    high = λ z f. by_side z (λ s. s ≤ℤ pos 300000) (λ a. omega (arith, ints)) (λ a. omega (arith, ints));
    rises = λ y z f g h. by_side y (λ s. s ≤ℤ step_stress height z)
        (λ a. by_side z (λ s. neg_ℤ (pos height) ≤ℤ s) (λ b. omega (arith, ints)) (λ b. omega (arith, ints)))
        (λ a. by_side z (λ s. pos height ≤ℤ s) (λ b. absurd (omega (arith, ints))) (λ b. omega (arith, ints)));
    compression_in = (omega arith, omega arith);
    tension_in = (omega arith, omega arith);
  }
