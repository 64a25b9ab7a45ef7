-- What an ask at a curvature is true to, of lawful laws and fibres in range.
use Rattle.std.specs.Prelude.{◌≡◌, ℕ, ◌≤◌, ◌⊎◌, List, [], ◌∷◌, ℤ, pos, ◌+ℤ◌, neg_ℤ, ◌≤ℤ◌, ◌<ℤ◌, Some, Ok, Err, Result}
use Rattle.std.specs.List.{AllByRecursion, slice_get}
use Rattle.refusal.specs.Refusals.{Says}
use Rattle.refusal.specs.declared.Refusal.{Refusal}
use Rattle.laws.specs.Meaning.{Meaning, Lawful}
use Rattle.section.specs.Fibres.{law_of, strain, force, Ranged, TopStrain, Admitted}
use Rattle.section.specs.Asked.{least_for, greatest_for, SetsLeast, SetsGreatest, Askable, Asked}
use Rattle.section.specs.declared.fibre.Fibre.{Fibre}
use Rattle.section.specs.declared.ends.Ends.{Ends}

abbrev pub Exactly : Type 0 → Type 0 → Type 0
Exactly P Q = (P → Q) × (Q → P)

-- one number has the property, and no other has it
abbrev pub Only : (ℤ → Type 0) → Type 0
Only P = (x : ℤ) × P x × ((y : ℤ) → P y → y ≡ x)

-- the force never falls as the top strain rises
abbrev pub Rising : List Meaning → List Fibre → ℕ → Type 0
Rising laws fibres curvature =
    curvature ≤ 65535 → (x y : ℤ) → TopStrain x → TopStrain y → x ≤ℤ y → force laws fibres curvature x ≤ℤ force laws fibres curvature y

-- the admitted top strains are those from the limit of one fibre to the limit of another
abbrev pub Bounded : List Meaning → List Fibre → ℕ → Type 0
Bounded laws fibres curvature = curvature ≤ 65535 → (p q : ℕ) (s : SetsLeast laws fibres curvature p) (t : SetsGreatest laws fibres curvature q) (top : ℤ)
    → Exactly (Admitted laws fibres curvature top) ((least_for laws curvature s.fibre ≤ℤ top) × (top ≤ℤ greatest_for laws curvature t.fibre))

-- an ask comes to something, and to one thing only
abbrev pub OneOutcome : List Meaning → List Fibre → ℤ → ℕ → ℕ → Type 0
OneOutcome laws fibres load depth curvature =
    (o : Result Ends Refusal) × Asked laws fibres load depth curvature o × ((p : Result Ends Refusal) → Asked laws fibres load depth curvature p → p ≡ o)

-- an admitted top strain whose force is the load
abbrev pub Balances : List Meaning → List Fibre → ℤ → ℕ → ℤ → Type 0
Balances laws fibres load curvature top = Admitted laws fibres curvature top × (force laws fibres curvature top ≡ load)

-- the ends meet exactly where one top strain alone balances the load
abbrev pub Alone : List Meaning → List Fibre → ℤ → ℕ → ℕ → Type 0
Alone laws fibres load depth curvature =
    (e : Ends) → Asked laws fibres load depth curvature (Ok e) → Exactly (e.first ≡ e.last) (Only (Balances laws fibres load curvature))

-- the first end stands one past the last where no top strain balances the load, and not past it where one does
abbrev pub Apart : List Meaning → List Fibre → ℤ → ℕ → ℕ → Type 0
Apart laws fibres load depth curvature = (e : Ends) → Asked laws fibres load depth curvature (Ok e)
    → (((top : ℤ) → Balances laws fibres load curvature top → ⊥) → e.first ≡ e.last +ℤ pos 1)
    × ((top : ℤ) → Balances laws fibres load curvature top → e.first ≤ℤ e.last)

-- two admitted top strains, equal or one apart, whose forces enclose the load
pub record Enclosing (laws : List Meaning) (fibres : List Fibre) (load : ℤ) (curvature : ℕ) : Type 0 where
  pub lower : ℤ
  pub upper : ℤ
  pub near : (upper ≡ lower) ⊎ (upper ≡ lower +ℤ pos 1)
  pub lower_in : Admitted laws fibres curvature lower
  pub upper_in : Admitted laws fibres curvature upper
  pub below : force laws fibres curvature lower ≤ℤ load
  pub above : load ≤ℤ force laws fibres curvature upper

-- an ask is refused exactly where there are no such two
abbrev pub Enclosed : List Meaning → List Fibre → ℤ → ℕ → ℕ → Type 0
Enclosed laws fibres load depth curvature =
    Askable fibres curvature → Exactly ((r : Refusal) × Asked laws fibres load depth curvature (Err r)) (Enclosing laws fibres load curvature → ⊥)

-- at a top strain a fibre lies below minus its compression limit, or above its tension limit
abbrev pub Crushes : List Meaning → ℕ → ℤ → Fibre → Type 0
Crushes laws curvature top f = strain curvature top f <ℤ neg_ℤ (pos (law_of laws f).compression)

abbrev pub Parts : List Meaning → ℕ → ℤ → Fibre → Type 0
Parts laws curvature top f = pos (law_of laws f).tension <ℤ strain curvature top f

-- a fibre stands at the position, and has the property
abbrev pub Stands : List Fibre → ℕ → (Fibre → Type 0) → Type 0
Stands fibres p P = (f : Fibre) × (slice_get fibres p ≡ Some f) × P f

-- what the fibres that a refusal names do at a top strain
pub record Causes (laws : List Meaning) (fibres : List Fibre) (load : ℤ) (curvature : ℕ) (r : Refusal) (top : ℤ) : Type 0 where
  -- the first is crushed, or the second parts
  pub none : (p q : ℕ) → Says r 13 (pos p ∷ pos q ∷ []) → Stands fibres p (Crushes laws curvature top) ⊎ Stands fibres q (Parts laws curvature top)
  -- the fibre is crushed wherever the force is not above the load
  pub crushed : (p : ℕ) → Says r 14 (pos p ∷ []) → force laws fibres curvature top ≤ℤ load → Stands fibres p (Crushes laws curvature top)
  -- the fibre parts wherever the force is not below the load
  pub parted : (p : ℕ) → Says r 15 (pos p ∷ []) → load ≤ℤ force laws fibres curvature top → Stands fibres p (Parts laws curvature top)

pub record TruthsOf (laws : List Meaning) (fibres : List Fibre) (load : ℤ) (depth curvature : ℕ) : Type 0 where
  pub rising : Rising laws fibres curvature
  pub bounded : Bounded laws fibres curvature
  pub one_outcome : OneOutcome laws fibres load depth curvature
  pub alone : Alone laws fibres load depth curvature
  pub apart : Apart laws fibres load depth curvature
  pub enclosed : Enclosed laws fibres load depth curvature
  pub causes : (r : Refusal) → Asked laws fibres load depth curvature (Err r) → (top : ℤ) → TopStrain top → Causes laws fibres load curvature r top

abbrev pub Truths : Type 0
Truths = (laws : List Meaning) → AllByRecursion Lawful laws → (fibres : List Fibre) → AllByRecursion Ranged fibres → (load : ℤ) (depth curvature : ℕ) → TruthsOf laws fibres load depth curvature
