-- The force and the moment of a row of fibres stay within bounds.
use Rattle.std.proofs.Common.{ℕ, ◌+◌, ◌*◌, ◌≤◌, List, [], ◌∷◌, length, ℤ, pos, ◌+ℤ◌, ◌*ℤ◌, neg_ℤ, ◌≤ℤ◌, fold, ap, subst, suc-mul, arith}
use lib.IntN.{*ℤ_comm}
use borrow.Author.Differences.{neg_is, product_is}
use Rattle.std.specs.List.{AllByRecursion}
use Rattle.std.proofs.lemmas.Int.{ints}
use Rattle.std.proofs.lemmas.Nat.{mul-le}
use Rattle.laws.specs.Meaning.{Meaning, Lawful}
use Rattle.laws.proofs.Whole.{scale_rises}
use Rattle.section.specs.Fibres.{strain, pull, Ranged}
use Rattle.section.specs.ForceRises.{law_of_lawful, strain_fits}
use Rattle.section.specs.Ranges.{LoadRanged}
use Rattle.section.specs.declared.fibre.Fibre.{Fibre}
use Rattle.section.specs.declared.plane.Plane.{Plane}

-- from minus a bound to the bound
abbrev pub Within : ℕ → ℤ → Type 0
Within bound z = (neg_ℤ (pos bound) ≤ℤ z) × (z ≤ℤ pos bound)

-- a product with a number that is at most k
scaled_within : (n k bound : ℕ) (z : ℤ) → n ≤ k → Within bound z → Within (k * bound) (pos n *ℤ z)
scaled_within n k bound z h w =
    let m = mul-le n bound k bound h (omega arith) in
    let l = scale_rises n (neg_ℤ (pos bound)) z w.0 in
    let u = scale_rises n z (pos bound) w.1 in
    let a = neg_is (pos bound) in
    let b = product_is (pos n) (neg_ℤ (pos bound)) in
    let c = product_is (pos n) (pos bound) in
    let x = ap (λ m. n * m) a.0 in
    let y = ap (λ m. n * m) a.1 in
    (omega (arith, ints), omega (arith, ints))

pub load_within : (load : ℤ) (depth : ℕ) → LoadRanged load depth → Within 1638400000000000000 (load *ℤ pos depth)
load_within load depth r =
    subst (Within 1638400000000000000) (*ℤ_comm (pos depth) load) (scaled_within depth 4096 400000000000000 load r.depth_most (r.least, r.most))

-- a fibre's moment about the top
abbrev pub lever : List Meaning → ℕ → ℤ → Fibre → ℤ
lever laws curvature top f = pull laws curvature top f *ℤ pos f.depth

module _ (laws : List Meaning) (lawful : AllByRecursion Lawful laws) (p : Plane) where
  pull_within : (f : Fibre) → Ranged f → Within 600000000000 (pull laws p.curvature.number p.top f)
  pull_within f r =
      let law = law_of_lawful laws lawful f in
      let fits = strain_fits p.curvature.number p.curvature.gentle p.top p.within f r in
      scaled_within f.area 2000000 300000 _ r.area_most (law.low (strain p.curvature.number p.top f) fits, law.high (strain p.curvature.number p.top f) fits)

  pub pull_small : (f : Fibre) → Ranged f → Within 2457600000000000 (pull laws p.curvature.number p.top f)
  pull_small f r = let w = pull_within f r in (omega (arith, ints), omega (arith, ints))

  pub lever_small : (f : Fibre) → Ranged f → Within 2457600000000000 (lever laws p.curvature.number p.top f)
  lever_small f r = subst (Within 2457600000000000) (*ℤ_comm (pos f.depth) (pull laws p.curvature.number p.top f))
      (scaled_within f.depth 4096 600000000000 _ r.depth_most (pull_within f r))

abbrev pub total : (Fibre → ℤ) → List Fibre → ℤ
total value fibres = fold (λ sum f. sum +ℤ value f) (pos 0) fibres

-- a sum over fibres, each of whose values is within a bound
module _ (value : Fibre → ℤ) (each : (f : Fibre) → Ranged f → Within 2457600000000000 (value f)) where
  sum_within : (fibres : List Fibre) → AllByRecursion Ranged fibres → (from : ℕ) (a : ℤ) → Within from a
      → Within (from + length fibres * 2457600000000000) (fold (λ sum f. sum +ℤ value f) a fibres)
  sum_within [] all from a w = (omega (arith, ints), omega (arith, ints))
  sum_within (f ∷ fibres) all from a w =
      let p = each f all.0 in
      let m = suc-mul (length fibres) 2457600000000000 in
      let r = sum_within fibres all.1 (from + 2457600000000000) (a +ℤ value f) (omega (arith, ints), omega (arith, ints)) in
      (omega (arith, ints), omega (arith, ints))

  pub total_within : (fibres : List Fibre) → AllByRecursion Ranged fibres → length fibres ≤ 512 → Within 1258291200000000000 (total value fibres)
  total_within fibres ranged few =
      let w = sum_within fibres ranged 0 (pos 0) (omega (arith, ints), omega (arith, ints)) in (omega (arith, ints), omega (arith, ints))
