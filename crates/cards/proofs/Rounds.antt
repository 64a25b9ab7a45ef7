-- A positive float rounded to the nearest whole number, halves up: it keeps the order, and a small one is a `u32`.
use Rattle.std.proofs.Common.{◌≡◌, ℕ, ◌+◌, ◌*◌, ◌^◌, ◌<◌, ◌≤◌, true, false, T, pos, sym, refl, ap, ◌∙◌, subst, le_trans, le_refl, mul_assoc, mul_comm, add-mul, mul_left_comm, arith, lit≤, le→leb}
use lib.Ieee.{Float, nan, inf, fin, binary64, le, of_int, in_float, in_unsigned, to_unsigned}
use lib.Ieee.Back.{unsigned_back}
use lib.Ieee.Nearest.{div_mono}
use lib.Ieee.Positive.{num, den, den_pos, positive, le→cross, cross→le}
use Rattle.std.specs.Float.{ratio_round_half_up, float_round, round_with}

-- halves up keeps the order of fractions
half_mono : (a b c d : ℕ) → 0 < b → 0 < d → a * d ≤ c * b → ratio_round_half_up a b ≤ ratio_round_half_up c d
half_mono a b c d B D h =
    let x : (2 * a + b) * (2 * d) ≡ 4 * (a * d) + 2 * (b * d) = cross a b d in
    let y : (2 * c + d) * (2 * b) ≡ 4 * (c * b) + 2 * (d * b) = cross c d b in
    let z : b * d ≡ d * b = mul_comm b d in
    div_mono (2 * a + b) (2 * b) (2 * c + d) (2 * d) (twice b B) (twice d D) (omega arith)
  where
    twice : (n : ℕ) → 0 < n → 0 < 2 * n
    twice n h = omega arith

    cross : (p q r : ℕ) → (2 * p + q) * (2 * r) ≡ 4 * (p * r) + 2 * (q * r)
    cross p q r =
        let e = add-mul (2 * p) q (2 * r) in
        let f : 2 * p * (2 * r) ≡ 4 * (p * r) = ap (λ (z : ℕ). z * (2 * r)) (mul_comm 2 p) ∙ mul_assoc p 2 (2 * r) ∙ ap (λ (z : ℕ). p * z) (quad r) ∙ mul_left_comm p 4 r in
        let g : q * (2 * r) ≡ 2 * (q * r) = mul_left_comm q 2 r in
        omega arith
      where
        quad : (r : ℕ) → 2 * (2 * r) ≡ 4 * r
        quad r = omega arith

-- the whole number that a value above zero rounds to
abbrev pub nearest : Float → ℕ
nearest p = ratio_round_half_up (num p) (den p)

pub away_is : (p : Float) → T (positive p) → float_round binary64 p ≡ of_int binary64 (pos (nearest p))
unfolding round_with of_int
away_is nan h = absurd h
away_is (inf s) h = absurd h
away_is (fin true m e) h = absurd h
away_is (fin false m e) h = refl

pub nearest_mono : (p q : Float) → T (positive p) → T (positive q) → T (le p q) → nearest p ≤ nearest q
nearest_mono p q P Q h = half_mono (num p) (den p) (num q) (den q) (den_pos p) (den_pos q) (le→cross p q P Q h)

counted : (n : ℕ) → n ≤ 2 ^ 31 → T (in_float binary64 (pos n))
unfolding in_float
counted n h = le→leb n (2 ^ 53) (le_trans h (lit≤ tt))

under : (n : ℕ) → n ≤ 2 ^ 31 → n < 2 ^ 32
under n h = omega arith

-- 2 ^ 31
abbrev pub top : Float
top = fin false 1 (pos 31)

-- a value between 0 and 2 ^ 31 is, rounded, a `u32`
pub cast : (p : Float) → T (positive p) → T (le p top) → T (in_unsigned binary64 32 (float_round binary64 p)) × (to_unsigned 32 (float_round binary64 p) ≡ nearest p)
cast p P h =
    let n : nearest p ≤ 2 ^ 31 = nearest_mono p top P tt h in
    let b = unsigned_back binary64 32 (nearest p) (counted (nearest p) n) (under (nearest p) n) in
    let F : Float → Type 0 = λ x. T (in_unsigned binary64 32 x) × (to_unsigned 32 x ≡ nearest p) in
    subst F (sym (away_is p P)) b

pub le_self : (x : Float) → T (positive x) → T (le x x)
le_self x p = cross→le x x p p (le_refl (num x * den x))
