-- A row of fibres at a curvature and a top strain: strain, force, moment, and which top strains the limits admit.
use Rattle.std.specs.Prelude.{ℕ, ◌*◌, ◌≤◌, List, ℤ, pos, ◌+ℤ◌, ◌-ℤ◌, ◌*ℤ◌, neg_ℤ, ◌≤ℤ◌, Some, None, fold, Option}
use Rattle.std.specs.List.{AllByRecursion}
use Rattle.laws.specs.Meaning.{Meaning}
use Rattle.kits.specs.Kits.{reached}
use Rattle.section.specs.declared.fibre.Fibre.{Fibre}

-- stands where a number has no law, so that every row of fibres has a force; no fibre that a section takes meets it
abbrev pub no_law : Meaning
no_law = record { stress = λ _. pos 0; compression = 1; tension = 1 }

abbrev pub law_or_none : Option Meaning → Meaning
law_or_none (Some law) = law
law_or_none None = no_law

abbrev pub law_of : List Meaning → Fibre → Meaning
law_of laws f = law_or_none (reached laws f.material)

-- top strain + curvature × depth + initial strain
abbrev pub strain : ℕ → ℤ → Fibre → ℤ
strain curvature top f = top +ℤ pos (curvature * f.depth) +ℤ f.initial

-- area × stress
abbrev pub pull : List Meaning → ℕ → ℤ → Fibre → ℤ
pull laws curvature top f = pos f.area *ℤ (law_of laws f).stress (strain curvature top f)

abbrev pub force : List Meaning → List Fibre → ℕ → ℤ → ℤ
force laws fibres curvature top = fold (λ sum f. sum +ℤ pull laws curvature top f) (pos 0) fibres

-- the sum of area × stress × depth, less load × load depth
abbrev pub moment : List Meaning → List Fibre → ℤ → ℕ → ℕ → ℤ → ℤ
moment laws fibres load depth curvature top =
    fold (λ sum f. sum +ℤ pull laws curvature top f *ℤ pos f.depth) (pos 0) fibres -ℤ load *ℤ pos depth

-- a fibre's figures are in range
pub record Ranged (f : Fibre) : Type 0 where
  pub depth_most : f.depth ≤ 4096
  pub area_least : 1 ≤ f.area
  pub area_most : f.area ≤ 2000000
  pub initial_least : neg_ℤ (pos 100000000) ≤ℤ f.initial
  pub initial_most : f.initial ≤ℤ pos 100000000

-- a top strain of the units
abbrev pub TopStrain : ℤ → Type 0
TopStrain top = (neg_ℤ (pos 500000000) ≤ℤ top) × (top ≤ℤ pos 500000000)

-- from minus the compression limit to the tension limit
abbrev pub Inside : Meaning → ℤ → Type 0
Inside law e = (neg_ℤ (pos law.compression) ≤ℤ e) × (e ≤ℤ pos law.tension)

-- a top strain at which every fibre is inside its limits
abbrev pub Admitted : List Meaning → List Fibre → ℕ → ℤ → Type 0
Admitted laws fibres curvature top = TopStrain top × AllByRecursion (λ f. Inside (law_of laws f) (strain curvature top f)) fibres
