-- What an ask at a curvature answers: the ends of the top strains that balance the load, or the first ground that bars them.
use Rattle.std.specs.Prelude.{◌≡◌, ℕ, ◌*◌, ◌<◌, ◌≤◌, ◌⊎◌, List, [], ◌∷◌, ℤ, pos, ◌-ℤ◌, neg_ℤ, ◌≤ℤ◌, ◌<ℤ◌, Some, Ok, Err, Result, ◌≢◌}
use Rattle.std.specs.List.{slice_get}
use Rattle.refusal.specs.Refusals.{Says}
use Rattle.refusal.specs.declared.Refusal.{Refusal}
use Rattle.laws.specs.Meaning.{Meaning}
use Rattle.section.specs.Fibres.{law_of, force, moment, Admitted}
use Rattle.section.specs.declared.fibre.Fibre.{Fibre}
use Rattle.section.specs.declared.ends.Ends.{Ends}

-- the least, and the greatest, whole number with a property
pub record Least (P : ℤ → Type 0) (x : ℤ) : Type 0 where
  pub holds : P x
  pub first : (y : ℤ) → P y → x ≤ℤ y

pub record Greatest (P : ℤ → Type 0) (x : ℤ) : Type 0 where
  pub holds : P x
  pub last : (y : ℤ) → P y → y ≤ℤ x

-- the first end, the last end, and the moment at each
pub record Balanced (laws : List Meaning) (fibres : List Fibre) (load : ℤ) (depth curvature : ℕ) (e : Ends) : Type 0 where
  pub first_end : Least (λ top. Admitted laws fibres curvature top × (load ≤ℤ force laws fibres curvature top)) e.first
  pub last_end : Greatest (λ top. Admitted laws fibres curvature top × (force laws fibres curvature top ≤ℤ load)) e.last
  pub first_moment_is : e.first_moment ≡ moment laws fibres load depth curvature e.first
  pub last_moment_is : e.last_moment ≡ moment laws fibres load depth curvature e.last

-- the top strain at which a fibre meets its compression limit, and its tension limit
abbrev pub least_for : List Meaning → ℕ → Fibre → ℤ
least_for laws curvature f = neg_ℤ (pos (law_of laws f).compression) -ℤ pos (curvature * f.depth) -ℤ f.initial

abbrev pub greatest_for : List Meaning → ℕ → Fibre → ℤ
greatest_for laws curvature f = pos (law_of laws f).tension -ℤ pos (curvature * f.depth) -ℤ f.initial

-- the lowest position among the fibres whose compression limit sets the least top strain
pub record SetsLeast (laws : List Meaning) (fibres : List Fibre) (curvature p : ℕ) : Type 0 where
  pub fibre : Fibre
  pub stands : slice_get fibres p ≡ Some fibre
  pub most : (q : ℕ) (g : Fibre) → slice_get fibres q ≡ Some g → least_for laws curvature g ≤ℤ least_for laws curvature fibre
  pub lowest : (q : ℕ) (g : Fibre) → q < p → slice_get fibres q ≡ Some g → least_for laws curvature g <ℤ least_for laws curvature fibre

-- the lowest position among the fibres whose tension limit sets the greatest top strain
pub record SetsGreatest (laws : List Meaning) (fibres : List Fibre) (curvature p : ℕ) : Type 0 where
  pub fibre : Fibre
  pub stands : slice_get fibres p ≡ Some fibre
  pub least : (q : ℕ) (g : Fibre) → slice_get fibres q ≡ Some g → greatest_for laws curvature fibre ≤ℤ greatest_for laws curvature g
  pub lowest : (q : ℕ) (g : Fibre) → q < p → slice_get fibres q ≡ Some g → greatest_for laws curvature fibre <ℤ greatest_for laws curvature g

-- there are fibres, and the curvature is in range
abbrev pub Askable : List Fibre → ℕ → Type 0
Askable fibres curvature = (curvature ≤ 65535) × (fibres ≢ [])

-- 11: the curvature is too large
abbrev pub TooCurved : ℕ → Refusal → Type 0
TooCurved curvature r = (65535 < curvature) × Says r 11 []

-- 12: there is no fibre
abbrev pub Bare : List Fibre → ℕ → Refusal → Type 0
Bare fibres curvature r = (curvature ≤ 65535) × (fibres ≡ []) × Says r 12 []

-- 13: no top strain is admitted; the fibre that sets the least, then the one that sets the greatest
pub record NoneAdmitted (laws : List Meaning) (fibres : List Fibre) (curvature : ℕ) (r : Refusal) : Type 0 where
  pub askable : Askable fibres curvature
  pub none : (top : ℤ) → Admitted laws fibres curvature top → ⊥
  pub compressed : ℕ
  pub sets_least : SetsLeast laws fibres curvature compressed
  pub stretched : ℕ
  pub sets_greatest : SetsGreatest laws fibres curvature stretched
  pub says : Says r 13 (pos compressed ∷ pos stretched ∷ [])

-- 14: the force at the least admitted top strain is above the load; the fibre that sets it
pub record Crushed (laws : List Meaning) (fibres : List Fibre) (load : ℤ) (curvature : ℕ) (r : Refusal) : Type 0 where
  pub askable : Askable fibres curvature
  pub least : ℤ
  pub is_least : Least (Admitted laws fibres curvature) least
  pub above : load <ℤ force laws fibres curvature least
  pub place : ℕ
  pub sets_least : SetsLeast laws fibres curvature place
  pub says : Says r 14 (pos place ∷ [])

-- 15: the force at the greatest admitted top strain is below the load; the fibre that sets it
pub record Parted (laws : List Meaning) (fibres : List Fibre) (load : ℤ) (curvature : ℕ) (r : Refusal) : Type 0 where
  pub askable : Askable fibres curvature
  pub greatest : ℤ
  pub is_greatest : Greatest (Admitted laws fibres curvature) greatest
  pub below : force laws fibres curvature greatest <ℤ load
  pub place : ℕ
  pub sets_greatest : SetsGreatest laws fibres curvature place
  pub says : Says r 15 (pos place ∷ [])

-- why an ask is refused
abbrev pub Barred : List Meaning → List Fibre → ℤ → ℕ → Refusal → Type 0
Barred laws fibres load curvature r =
    TooCurved curvature r
    ⊎ (Bare fibres curvature r ⊎ (NoneAdmitted laws fibres curvature r ⊎ (Crushed laws fibres load curvature r ⊎ Parted laws fibres load curvature r)))

-- what an ask comes to
abbrev pub Asked : List Meaning → List Fibre → ℤ → ℕ → ℕ → Result Ends Refusal → Type 0
Asked laws fibres load depth curvature (Ok e) = Askable fibres curvature × Balanced laws fibres load depth curvature e
Asked laws fibres load depth curvature (Err r) = Barred laws fibres load curvature r
