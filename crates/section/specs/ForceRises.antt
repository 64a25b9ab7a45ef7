-- The force of a row of fibres never falls as the top strain rises.
use Rattle.std.specs.Prelude.{ℕ, ◌*◌, ◌≤◌, List, [], ◌∷◌, ℤ, pos, ◌+ℤ◌, neg_ℤ, ◌≤ℤ◌, Some, None, fold, Option, FitsSigned}
use Rattle.std.specs.Int.{w32}
use Rattle.std.proofs.Common.{arith}
use Rattle.std.specs.List.{AllByRecursion}
use Rattle.std.proofs.lemmas.Int.{ints}
use Rattle.std.proofs.lemmas.Nat.{mul-le}
use Rattle.laws.specs.Meaning.{Meaning, Lawful}
use Rattle.laws.proofs.Whole.{scale_rises}
use Rattle.kits.specs.Kits.{reached}
use Rattle.kits.specs.KitsLawful.{Sound, reached_sound}
use Rattle.section.specs.Fibres.{no_law, law_or_none, law_of, strain, pull, force, Ranged, TopStrain}
use Rattle.section.specs.declared.fibre.Fibre.{Fibre}

no_law_lawful : Lawful no_law
no_law_lawful = record {
  low = λ z f. omega (arith, ints);
  high = λ z f. omega (arith, ints);
  rises = λ y z f g h. omega (arith, ints);
  compression_in = (omega arith, omega arith);
  tension_in = (omega arith, omega arith);
}

law_or_none_lawful : (o : Option Meaning) → Sound o → Lawful (law_or_none o)
law_or_none_lawful None s = no_law_lawful
law_or_none_lawful (Some law) s = s

pub law_of_lawful : (laws : List Meaning) → AllByRecursion Lawful laws → (f : Fibre) → Lawful (law_of laws f)
law_of_lawful laws lawful f = law_or_none_lawful (reached laws f.material) (reached_sound laws f.material lawful)

pub turned_most : (curvature : ℕ) (f : Fibre) → curvature ≤ 65535 → Ranged f → curvature * f.depth ≤ 268431360
turned_most curvature f small r = mul-le curvature f.depth 65535 4096 small r.depth_most

module _ (curvature : ℕ) (small : curvature ≤ 65535) (top : ℤ) (t : TopStrain top) (f : Fibre) (r : Ranged f) where
  pub strain_least : neg_ℤ (pos 600000000) ≤ℤ strain curvature top f
  strain_least = let m = turned_most curvature f small r in omega (arith, ints)

  pub strain_most : strain curvature top f ≤ℤ pos 868431360
  strain_most = let m = turned_most curvature f small r in omega (arith, ints)

  pub strain_fits : FitsSigned w32 (strain curvature top f)
  strain_fits = let l = strain_least in let m = strain_most in omega (arith, ints)

module _ (laws : List Meaning) (lawful : AllByRecursion Lawful laws) (curvature : ℕ) (small : curvature ≤ 65535) where
  pull_rises : (x y : ℤ) → TopStrain x → TopStrain y → x ≤ℤ y → (f : Fibre) → Ranged f → pull laws curvature x f ≤ℤ pull laws curvature y f
  pull_rises x y tx ty h f r =
      scale_rises f.area _ _ ((law_of_lawful laws lawful f).rises (strain curvature x f) (strain curvature y f)
      (strain_fits curvature small x tx f r) (strain_fits curvature small y ty f r) (omega (arith, ints)))

  sum_rises : (x y : ℤ) → TopStrain x → TopStrain y → x ≤ℤ y → (fibres : List Fibre) → AllByRecursion Ranged fibres → (a b : ℤ) → a ≤ℤ b
      → fold (λ sum f. sum +ℤ pull laws curvature x f) a fibres ≤ℤ fold (λ sum f. sum +ℤ pull laws curvature y f) b fibres
  sum_rises x y tx ty h [] ranged a b l = l
  sum_rises x y tx ty h (f ∷ fibres) ranged a b l =
      let p = pull_rises x y tx ty h f ranged.0 in
      sum_rises x y tx ty h fibres ranged.1 (a +ℤ pull laws curvature x f) (b +ℤ pull laws curvature y f) (omega (arith, ints))

  pub force_rises : (fibres : List Fibre) → AllByRecursion Ranged fibres → (x y : ℤ) → TopStrain x → TopStrain y → x ≤ℤ y
      → force laws fibres curvature x ≤ℤ force laws fibres curvature y
  force_rises fibres ranged x y tx ty h = sum_rises x y tx ty h fibres ranged (pos 0) (pos 0) (omega (arith, ints))
