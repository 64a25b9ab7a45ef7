-- There is one answer, and the greatest point comes from the least one past it. Assumes nothing.
use Rattle.std.proofs.Common.{◌≡◌, ℤ, pos, ◌+ℤ◌, ◌-ℤ◌, ◌≤ℤ◌, ◌<ℤ◌, Some, None, Option, refl, ap, arith}
use Rattle.std.proofs.lemmas.Int.{ints, by_lt_z}
use Rattle.search.specs.Points.{Least, Greatest, Nowhere, LeastOrNone, GreatestOrNone, Only}
use Rattle.search.proofs.Bisection.{HoldsOn}

pub least_only : (P : ℤ → Type 0) (low high : ℤ) (r : Option ℤ) → LeastOrNone P low high r → Only (LeastOrNone P low high) r
least_only P low high None f None g = refl
least_only P low high None f (Some y) g = absurd (f y g.from g.to g.holds)
least_only P low high (Some x) f None g = absurd (g x f.from f.to f.holds)
least_only P low high (Some x) f (Some y) g =
    let a = f.first y g.from g.to g.holds in
    let b = g.first x f.from f.to f.holds in
    ap Some (omega (arith, ints))

pub greatest_only : (P : ℤ → Type 0) (low high : ℤ) (r : Option ℤ) → GreatestOrNone P low high r → Only (GreatestOrNone P low high) r
greatest_only P low high None f None g = refl
greatest_only P low high None f (Some y) g = absurd (f y g.from g.to g.holds)
greatest_only P low high (Some x) f None g = absurd (g x f.from f.to f.holds)
greatest_only P low high (Some x) f (Some y) g =
    let a = f.last y g.from g.to g.holds in
    let b = g.last x f.from f.to f.holds in
    ap Some (omega (arith, ints))

pub greatest_high : (P : ℤ → Type 0) (low high : ℤ) → low ≤ℤ high → P high → Greatest P low high high
greatest_high P low high h p = record {
  from = h;
  to = omega (arith, ints);
  holds = p;
  last = λ x a b q. b;
}

-- the greatest point not above the target stands before the least past it
module _ (value : ℤ → ℤ) (low high target past : ℤ) (on : HoldsOn (λ x. (target +ℤ pos 1) ≤ℤ value x) low high)
    (least : Least (λ x. (target +ℤ pos 1) ≤ℤ value x) low high past) where
  above_from : (x : ℤ) → past ≤ℤ x → x ≤ℤ high → value x ≤ℤ target → ⊥
  above_from x a b p = let q = on past x least.from b a least.holds in omega (arith, ints)

  pub greatest_before : low <ℤ past → (point : ℤ) → point ≡ past -ℤ pos 1 → Greatest (λ x. value x ≤ℤ target) low high point
  greatest_before h point before =
      let t = least.to in
      record {
        from = omega (arith, ints);
        to = omega (arith, ints);
        holds = by_lt_z target (value point)
            (λ l. let f = least.first point (omega (arith, ints)) (omega (arith, ints)) (omega (arith, ints)) in absurd (omega (arith, ints)))
            (λ l. l);
        last = λ x a b p. by_lt_z x past (λ l. omega (arith, ints)) (λ l. absurd (above_from x l b p));
      }

  pub nowhere_before : past ≤ℤ low → Nowhere (λ x. value x ≤ℤ target) low high
  nowhere_before h x a b p = above_from x (omega (arith, ints)) b p
