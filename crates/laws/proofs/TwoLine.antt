-- The two-line law is lawful, and has the shape that its definition means it to have.
use Rattle.std.proofs.Common.{◌≡◌, ℕ, ◌+◌, ◌*◌, ◌<◌, ◌≤◌, ℤ, pos, ◌*ℤ◌, neg_ℤ, nat_abs, ◌≤ℤ◌, sym, ap, ◌∙◌, arith}
use lib.Signed.{quot_z}
use Rattle.std.proofs.lemmas.Int.{ints}
use Rattle.laws.specs.Meaning.{Lawful, Limit}
use Rattle.laws.specs.TwoLine.{elastic, two_line, two_line_law, Between, TwoLineShape}
use Rattle.laws.proofs.Whole.{scale_rises, quot_rises, scale_neg, quot_neg, clamp_rises, clamp_low, clamp_high, clamp_inside}

elastic_rises : (m : ℕ) (a b : ℤ) → a ≤ℤ b → elastic m a ≤ℤ elastic m b
unfolding elastic
elastic_rises m a b h = quot_rises _ _ (scale_rises m a b h)

pub elastic_neg : (m : ℕ) (z : ℤ) → elastic m (neg_ℤ z) ≡ neg_ℤ (elastic m z)
unfolding elastic
elastic_neg m z = ap (λ x. quot_z x (pos 1000000000)) (scale_neg m z) ∙ quot_neg (pos m *ℤ z)

elastic_zero : (m : ℕ) → elastic m (pos 0) ≡ pos 0
unfolding elastic
elastic_zero m = omega (arith, ints)

elastic_whole : (m n : ℕ) → (nat_abs (elastic m (pos n)) * 1000000000 ≤ m * n) × (m * n < (nat_abs (elastic m (pos n)) + 1) * 1000000000)
unfolding elastic
elastic_whole m n = (omega arith, omega arith)

module _ (m c t : ℕ) where
  two_line_rises : (a b : ℤ) → a ≤ℤ b → two_line m c t a ≤ℤ two_line m c t b
  unfolding two_line
  two_line_rises a b h = clamp_rises c t _ _ (elastic_rises m a b h)

  two_line_low : (z : ℤ) → neg_ℤ (pos c) ≤ℤ two_line m c t z
  unfolding two_line
  two_line_low z = clamp_low c t (elastic m z)

  two_line_high : (z : ℤ) → two_line m c t z ≤ℤ pos t
  unfolding two_line
  two_line_high z = clamp_high c t (elastic m z)

  two_line_between : (z : ℤ) → Between m c t z → two_line m c t z ≡ elastic m z
  unfolding two_line
  two_line_between z h = clamp_inside c t (elastic m z) h.0 h.1

  two_line_zero : two_line m c t (pos 0) ≡ pos 0
  two_line_zero = two_line_between (pos 0) (omega (arith, ints, elastic_zero m), omega (arith, ints, elastic_zero m)) ∙ elastic_zero m

  two_line_odd : (z : ℤ) → Between m c t z → Between m c t (neg_ℤ z) → two_line m c t (neg_ℤ z) ≡ neg_ℤ (two_line m c t z)
  two_line_odd z h k = two_line_between (neg_ℤ z) k ∙ elastic_neg m z ∙ ap neg_ℤ (sym (two_line_between z h))

  pub two_line_shape : TwoLineShape m c t
  two_line_shape = record {
    whole = elastic_whole m;
    zero = two_line_zero;
    odd = two_line_odd;
    rises = two_line_rises;
    low = two_line_low;
    high = two_line_high;
  }

pub two_line_lawful : (m c t s l : ℕ) → c ≤ 300000 → t ≤ 300000 → Limit s → Limit l → Lawful (two_line_law m c t s l)
two_line_lawful m c t s l hc ht hs hl = record {
  low = λ z f. let h = two_line_low m c t z in omega (arith, ints);
  high = λ z f. let h = two_line_high m c t z in omega (arith, ints);
  rises = λ y z f g h. two_line_rises m c t y z h;
  compression_in = hs;
  tension_in = hl;
}
