-- An end is known by itself and its neighbour: the force never falls, so nothing past the neighbour is an end.
use Rattle.std.proofs.Common.{ℕ, ◌≤◌, List, ℤ, pos, ◌+ℤ◌, ◌≤ℤ◌, ◌<ℤ◌, arith}
use Rattle.std.specs.List.{AllByRecursion}
use Rattle.std.proofs.lemmas.Int.{ints, by_lt_z}
use Rattle.laws.specs.Meaning.{Meaning, Lawful}
use Rattle.section.specs.Fibres.{force, Ranged, TopStrain, Admitted}
use Rattle.section.specs.Asked.{Least, Greatest}
use Rattle.section.specs.declared.fibre.Fibre.{Fibre}
use Rattle.section.specs.ForceRises.{force_rises}

module _ (laws : List Meaning) (lawful : AllByRecursion Lawful laws) (fibres : List Fibre) (ranged : AllByRecursion Ranged fibres) (load : ℤ) (curvature : ℕ) (small : curvature ≤ 65535) where
  pub first_by_neighbour : (x y : ℤ) → Admitted laws fibres curvature x → load ≤ℤ force laws fibres curvature x
      → TopStrain y → x ≤ℤ (y +ℤ pos 1) → force laws fibres curvature y <ℤ load
      → Least (λ top. Admitted laws fibres curvature top × (load ≤ℤ force laws fibres curvature top)) x
  first_by_neighbour x y a h t next below = record {
    holds = (a, h);
    first = λ z k. by_lt_z z x
        (λ l. let r = force_rises laws lawful curvature small fibres ranged z y k.0.0 t (omega (arith, ints)) in let m = k.1 in absurd (omega (arith, ints)))
        (λ l. l);
  }

  pub last_by_neighbour : (x y : ℤ) → Admitted laws fibres curvature x → force laws fibres curvature x ≤ℤ load
      → TopStrain y → y ≤ℤ (x +ℤ pos 1) → load <ℤ force laws fibres curvature y
      → Greatest (λ top. Admitted laws fibres curvature top × (force laws fibres curvature top ≤ℤ load)) x
  last_by_neighbour x y a h t next above = record {
    holds = (a, h);
    last = λ z k. by_lt_z x z
        (λ l. let r = force_rises laws lawful curvature small fibres ranged y z t k.0.0 (omega (arith, ints)) in let m = k.1 in absurd (omega (arith, ints)))
        (λ l. l);
  }
