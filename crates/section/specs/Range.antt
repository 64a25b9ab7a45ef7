-- The range of a row of fibres: where the limits that set its ends are met.
use Rattle.std.specs.Prelude.{◌≡◌, ℕ, List}
use Rattle.laws.specs.Meaning.{Meaning}
use Rattle.section.specs.Asked.{least_for, greatest_for, SetsLeast, SetsGreatest}
use Rattle.section.specs.declared.fibre.Fibre.{Fibre}
use Rattle.section.specs.declared.range.Range.{Range}

pub record SetsEnds (laws : List Meaning) (fibres : List Fibre) (curvature : ℕ) (r : Range) : Type 0 where
  pub sets_least : SetsLeast laws fibres curvature r.least.fibre
  pub least_is : r.least.top ≡ least_for laws curvature sets_least.fibre
  pub sets_greatest : SetsGreatest laws fibres curvature r.greatest.fibre
  pub greatest_is : r.greatest.top ≡ greatest_for laws curvature sets_greatest.fibre
