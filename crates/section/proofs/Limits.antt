-- Which top strains the limits admit, and which fibres set the least and the greatest.
use Rattle.std.proofs.Common.{◌≡◌, ℕ, zero, suc, ◌≤◌, List, [], ◌∷◌, ℤ, ◌≤ℤ◌, Some, None, Option, unwrap_or, refl, subst, inl, inr, arith}
use Rattle.std.specs.Option.{option_map}
use Rattle.std.specs.List.{AllByRecursion, slice_get}
use Rattle.std.proofs.lemmas.Int.{ints}
use Rattle.std.proofs.lemmas.Bool.{cases_order}
use Rattle.laws.specs.Meaning.{Meaning, Lawful}
use Rattle.kits.specs.Kits.{limits_of}
use Rattle.section.specs.Fibres.{law_or_none, law_of, strain, Ranged, TopStrain, Inside, Admitted}
use Rattle.section.specs.Asked.{least_for, greatest_for, SetsLeast, SetsGreatest}
use Rattle.section.specs.Truths.{Exactly}
use Rattle.section.specs.declared.fibre.Fibre.{Fibre}
use Rattle.section.specs.ForceRises.{law_of_lawful, turned_most}

-- the limits that a kit answers, or 1 and 1, are those of the fibre's law
pub limits_are : (o : Option Meaning) → unwrap_or (option_map limits_of o) (record { compression = 1; tension = 1 }) ≡ limits_of (law_or_none o)
limits_are None = refl
limits_are (Some law) = refl

pub all_nth : {X : Type 0} (P : X → Type 0) (xs : List X) → AllByRecursion P xs → (i : ℕ) (x : X) → slice_get xs i ≡ Some x → P x
all_nth P [] all i x e = cc
all_nth P (y ∷ ys) all zero x e = let p : y ≡ x = cc in subst P p all.0
all_nth P (y ∷ ys) all (suc i) x e = all_nth P ys all.1 i x e

pub all_from_nth : {X : Type 0} (P : X → Type 0) (xs : List X) → ((i : ℕ) (x : X) → slice_get xs i ≡ Some x → P x) → AllByRecursion P xs
all_from_nth P [] each = tt
all_from_nth P (y ∷ ys) each = (each 0 y refl, all_from_nth P ys (λ i x e. each (suc i) x e))

pub sets_least_once : (laws : List Meaning) (fibres : List Fibre) (curvature p q : ℕ) → SetsLeast laws fibres curvature p → SetsLeast laws fibres curvature q → p ≡ q
sets_least_once laws fibres curvature p q s t = elim (cases_order p q) [
  | inl e ↦ e
  | inr (inl l) ↦ let a = t.lowest p s.fibre l s.stands in let b = s.most q t.fibre t.stands in absurd (omega (arith, ints))
  | inr (inr l) ↦ let a = s.lowest q t.fibre l t.stands in let b = t.most p s.fibre s.stands in absurd (omega (arith, ints))
]

pub sets_greatest_once : (laws : List Meaning) (fibres : List Fibre) (curvature p q : ℕ) → SetsGreatest laws fibres curvature p → SetsGreatest laws fibres curvature q → p ≡ q
sets_greatest_once laws fibres curvature p q s t = elim (cases_order p q) [
  | inl e ↦ e
  | inr (inl l) ↦ let a = t.lowest p s.fibre l s.stands in let b = s.least q t.fibre t.stands in absurd (omega (arith, ints))
  | inr (inr l) ↦ let a = s.lowest q t.fibre l t.stands in let b = t.least p s.fibre s.stands in absurd (omega (arith, ints))
]

-- from the least to the greatest top strain of a fibre
abbrev pub Between : List Meaning → ℕ → ℤ → Fibre → Type 0
Between laws curvature top f = (least_for laws curvature f ≤ℤ top) × (top ≤ℤ greatest_for laws curvature f)

between_from_inside : (laws : List Meaning) (curvature : ℕ) (top : ℤ) (f : Fibre) → Inside (law_of laws f) (strain curvature top f) → Between laws curvature top f
between_from_inside laws curvature top f h = (omega (arith, ints), omega (arith, ints))

inside_from_between : (laws : List Meaning) (curvature : ℕ) (top : ℤ) (f : Fibre) → Between laws curvature top f → Inside (law_of laws f) (strain curvature top f)
inside_from_between laws curvature top f h = (omega (arith, ints), omega (arith, ints))

pub admitted_at : (laws : List Meaning) (fibres : List Fibre) (curvature : ℕ) (top : ℤ) → Admitted laws fibres curvature top
    → (i : ℕ) (f : Fibre) → slice_get fibres i ≡ Some f → Between laws curvature top f
admitted_at laws fibres curvature top a i f e =
    between_from_inside laws curvature top f (all_nth (λ f. Inside (law_of laws f) (strain curvature top f)) fibres a.1 i f e)

pub admitted_from : (laws : List Meaning) (fibres : List Fibre) (curvature : ℕ) (top : ℤ) → TopStrain top
    → ((i : ℕ) (f : Fibre) → slice_get fibres i ≡ Some f → Between laws curvature top f) → Admitted laws fibres curvature top
admitted_from laws fibres curvature top t each = (t, all_from_nth _ fibres (λ i f e. inside_from_between laws curvature top f (each i f e)))

pub admitted_between : (laws : List Meaning) (fibres : List Fibre) (curvature : ℕ) (x y z : ℤ) → Admitted laws fibres curvature x → Admitted laws fibres curvature z
    → x ≤ℤ y → y ≤ℤ z → Admitted laws fibres curvature y
admitted_between laws fibres curvature x y z a b h k = admitted_from laws fibres curvature y (omega (arith, ints), omega (arith, ints)) (λ i f e.
    let p = admitted_at laws fibres curvature x a i f e in
    let q = admitted_at laws fibres curvature z b i f e in
    (omega (arith, ints), omega (arith, ints)))

module _ (laws : List Meaning) (lawful : AllByRecursion Lawful laws) (fibres : List Fibre) (ranged : AllByRecursion Ranged fibres) (curvature : ℕ) (small : curvature ≤ 65535) where
  -- what lies between the limits of two fibres is a top strain
  limits_in : (top : ℤ) (f g : Fibre) → Ranged f → Ranged g → least_for laws curvature f ≤ℤ top → top ≤ℤ greatest_for laws curvature g → TopStrain top
  limits_in top f g r s h k =
      let c = (law_of_lawful laws lawful f).compression_in in
      let t = (law_of_lawful laws lawful g).tension_in in
      let m = turned_most curvature f small r in
      (omega (arith, ints), omega (arith, ints))

  pub admitted_range : (p q : ℕ) (s : SetsLeast laws fibres curvature p) (t : SetsGreatest laws fibres curvature q) (top : ℤ)
      → Exactly (Admitted laws fibres curvature top) ((least_for laws curvature s.fibre ≤ℤ top) × (top ≤ℤ greatest_for laws curvature t.fibre))
  admitted_range p q s t top = (
    λ a. ((admitted_at laws fibres curvature top a p s.fibre s.stands).0, (admitted_at laws fibres curvature top a q t.fibre t.stands).1),
    λ h. admitted_from laws fibres curvature top
        (limits_in top s.fibre t.fibre (all_nth Ranged fibres ranged p s.fibre s.stands) (all_nth Ranged fibres ranged q t.fibre t.stands) h.0 h.1)
        (λ i f e. let a = s.most i f e in let b = t.least i f e in (omega (arith, ints), omega (arith, ints))),
  )

  -- where any top strain is admitted, so are those at which the limits that set the range are met
  pub least_admitted : (p : ℕ) (s : SetsLeast laws fibres curvature p) (top : ℤ) → Admitted laws fibres curvature top
      → Admitted laws fibres curvature (least_for laws curvature s.fibre)
  least_admitted p s top a =
      let r = all_nth Ranged fibres ranged p s.fibre s.stands in
      let b = admitted_at laws fibres curvature top a p s.fibre s.stands in
      admitted_from laws fibres curvature (least_for laws curvature s.fibre) (limits_in _ s.fibre s.fibre r r (omega (arith, ints)) (omega (arith, ints)))
      (λ i f e. let c = s.most i f e in let d = admitted_at laws fibres curvature top a i f e in (c, omega (arith, ints)))

  pub greatest_admitted : (p : ℕ) (s : SetsGreatest laws fibres curvature p) (top : ℤ) → Admitted laws fibres curvature top
      → Admitted laws fibres curvature (greatest_for laws curvature s.fibre)
  greatest_admitted p s top a =
      let r = all_nth Ranged fibres ranged p s.fibre s.stands in
      let b = admitted_at laws fibres curvature top a p s.fibre s.stands in
      admitted_from laws fibres curvature (greatest_for laws curvature s.fibre) (limits_in _ s.fibre s.fibre r r (omega (arith, ints)) (omega (arith, ints)))
      (λ i f e. let c = s.least i f e in let d = admitted_at laws fibres curvature top a i f e in (omega (arith, ints), c))
