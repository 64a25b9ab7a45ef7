-- Every step of an interpolation fits 64 bits, so that the code's steps are those of the definition.
use Rattle.std.proofs.Common.{◌≡◌, ◌<◌, ℤ, ◌+ℤ◌, ◌-ℤ◌, ◌*ℤ◌, ◌≤ℤ◌, Some, arith, w64, SFits, to_z, of_z}
use lib.Signed.{quot_z}
use Rattle.std.proofs.lemmas.Nat.{mul-le}
use Rattle.std.proofs.lemmas.Int.{ints, to_z-of_z}
use Rattle.laws.specs.declared.point.Point.{Point}
use Rattle.laws.specs.Points.{line, Spans}
use Rattle.laws.specs.PointsLawful.{Ranged, ranged, sound_range, Next, next, rise, way, product_natural, line_low, line_high}

-- what is known where an interpolation begins
pub record Start (p q : Point) (z : ℤ) : Type 0 where
  from : Ranged p
  to : Ranged q
  steps : Next p q
  low : p.strain ≤ℤ z
  high : z ≤ℤ q.strain

pub start : {p q : Point} {z : ℤ} → Spans p q z → Start p q z
start {p} {q} s = record { from = ranged p s.from; to = ranged q (sound_range (Some p) q s.to); steps = next p q s.to; low = s.low; high = s.high }

-- a number in its bits and back, as the code holds it
abbrev held : ℤ → ℤ
held z = to_z w64 (of_z w64 z)

module _ {p q : Point} {z : ℤ} (s : Start p q z) where
  abbrev product : ℤ
  product = (q.stress -ℤ p.stress) *ℤ (z -ℤ p.strain)

  abbrev quotient : ℤ
  quotient = quot_z product (q.strain -ℤ p.strain)

  product_fits : SFits w64 product
  product_fits =
      let e = product_natural p q s.steps z s.low in
      let m = mul-le (rise p q s.steps) (way p q s.steps z) 600000 200000000 (omega (arith, ints)) (omega (arith, ints)) in
      omega (arith, ints)

  line_fits : SFits w64 (line p q z)
  line_fits =
      let a = line_low p q s.steps z s.low in
      let b = line_high p q s.steps z s.low s.high in
      omega (arith, ints)

  quotient_fits : SFits w64 quotient
  unfolding line
  quotient_fits =
      let a = line_low p q s.steps z s.low in
      let b = line_high p q s.steps z s.low s.high in
      omega (arith, ints)

  -- the same as the code holds them

  abbrev held_rise : ℤ
  held_rise = held q.stress -ℤ held p.stress

  abbrev held_way : ℤ
  held_way = held z -ℤ held p.strain

  abbrev held_run : ℤ
  held_run = held q.strain -ℤ held p.strain

  abbrev held_product : ℤ
  held_product = held held_rise *ℤ held held_way

  abbrev held_quotient : ℤ
  held_quotient = quot_z (held held_product) (held held_run)

  abbrev held_sum : ℤ
  held_sum = held p.stress +ℤ held held_quotient

  pub held_run_some : 0 < of_z w64 held_run
  held_run_some = omega (arith, ints)

  product_is : held_product ≡ product
  product_is =
      let a : held held_rise ≡ (q.stress -ℤ p.stress) = omega (arith, ints) in
      let b : held held_way ≡ (z -ℤ p.strain) = omega (arith, ints) in
      rw (a, b)

  pub held_product_fits : SFits w64 held_product
  held_product_fits = rw product_is product_fits

  quotient_is : held_quotient ≡ quotient
  quotient_is =
      let f = product_fits in
      let e : held held_run ≡ (q.strain -ℤ p.strain) = omega (arith, ints) in
      rw (product_is, e) (simp to_z-of_z)

  pub held_quotient_fits : SFits w64 held_quotient
  held_quotient_fits = rw quotient_is quotient_fits

  sum_is : held_sum ≡ line p q z
  unfolding line
  sum_is =
      let a : SFits w64 p.stress = omega (arith, ints) in
      let f = quotient_fits in
      rw quotient_is (simp to_z-of_z)

  pub held_sum_fits : SFits w64 held_sum
  held_sum_fits = rw sum_is line_fits

  pub held_sum_is : held held_sum ≡ line p q z
  held_sum_is = let f = line_fits in rw sum_is (simp to_z-of_z)
