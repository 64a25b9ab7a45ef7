-- Orders of whole numbers under products, quotients and bounds.
use Rattle.std.proofs.Common.{◌≡◌, ℕ, ◌*◌, ◌≤◌, ℤ, pos, negsuc, ◌*ℤ◌, neg_ℤ, ◌≤ℤ◌, ap, mul-le-mul_left, mul-add, arith, w32, w64, SFits}
use lib.Signed.{quot_z}
use borrow.Author.Differences.{up, down, le_out, at_most_in, neg_is, product_is}
use Rattle.std.specs.Int.{int_max, int_min}
use Rattle.std.proofs.lemmas.Int.{ints, clamps}
use Rattle.std.proofs.lemmas.Nat.{mul-le}

pub scale_rises : (k : ℕ) (a b : ℤ) → a ≤ℤ b → (pos k *ℤ a) ≤ℤ (pos k *ℤ b)
scale_rises k a b h =
    let m = mul-le-mul_left k (le_out a b h) in
    let p = mul-add k (up a) (down b) in
    let q = mul-add k (up b) (down a) in
    let x = product_is (pos k) a in
    let y = product_is (pos k) b in
    at_most_in _ _ (omega arith)

pub scale_fits : (k : ℕ) (z : ℤ) → k ≤ 4000000000 → SFits w32 z → SFits w64 (pos k *ℤ z)
scale_fits k z h f =
    let p = product_is (pos k) z in
    let a : up z ≤ 2147483648 = omega (arith, ints) in
    let b : down z ≤ 2147483648 = omega (arith, ints) in
    let x = mul-le k (up z) 4000000000 2147483648 h a in
    let y = mul-le k (down z) 4000000000 2147483648 h b in
    omega (arith, ints)

pub quot_rises : (a b : ℤ) → a ≤ℤ b → quot_z a (pos 1000000000) ≤ℤ quot_z b (pos 1000000000)
quot_rises (pos a) (pos b) h = omega (arith, ints)
quot_rises (pos a) (negsuc b) h = omega (arith, ints)
quot_rises (negsuc a) (pos b) h = omega (arith, ints)
quot_rises (negsuc a) (negsuc b) h = omega (arith, ints)

pub scale_neg : (k : ℕ) (z : ℤ) → (pos k *ℤ neg_ℤ z) ≡ neg_ℤ (pos k *ℤ z)
scale_neg k z =
    let n = neg_is z in
    let x = product_is (pos k) (neg_ℤ z) in
    let y = product_is (pos k) z in
    let a = ap (λ m. k * m) n.0 in
    let b = ap (λ m. k * m) n.1 in
    omega (arith, ints)

pub quot_neg : (z : ℤ) → quot_z (neg_ℤ z) (pos 1000000000) ≡ neg_ℤ (quot_z z (pos 1000000000))
quot_neg (pos n) = omega (arith, ints)
quot_neg (negsuc n) = omega (arith, ints)

-- a number held between two bounds
module _ (c t : ℕ) where
  pub clamp_rises : (a b : ℤ) → a ≤ℤ b → int_max (int_min a (pos t)) (neg_ℤ (pos c)) ≤ℤ int_max (int_min b (pos t)) (neg_ℤ (pos c))
  clamp_rises a b h = omega (arith, ints, clamps)

  pub clamp_low : (x : ℤ) → neg_ℤ (pos c) ≤ℤ int_max (int_min x (pos t)) (neg_ℤ (pos c))
  clamp_low x = omega (arith, ints, clamps)

  pub clamp_high : (x : ℤ) → int_max (int_min x (pos t)) (neg_ℤ (pos c)) ≤ℤ pos t
  clamp_high x = omega (arith, ints, clamps)

  pub clamp_inside : (x : ℤ) → neg_ℤ (pos c) ≤ℤ x → x ≤ℤ pos t → int_max (int_min x (pos t)) (neg_ℤ (pos c)) ≡ x
  clamp_inside x a b = omega (arith, ints, clamps)
