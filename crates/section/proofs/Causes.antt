-- What the fibres that a refusal names do: they bar every top strain that would meet the load.
use Rattle.std.proofs.Common.{◌≡◌, ℕ, ◌⊎◌, List, ℤ, ◌≤ℤ◌, Err, sym, ◌∙◌, subst, subst₂, inl, inr, arith}
use Rattle.std.specs.List.{AllByRecursion}
use Rattle.std.proofs.lemmas.Int.{ints, by_lt_z}
use Rattle.refusal.specs.Refusals.{Says}
use Rattle.refusal.specs.declared.Refusal.{Refusal}
use Rattle.laws.specs.Meaning.{Meaning, Lawful}
use Rattle.section.specs.Fibres.{force, Ranged, TopStrain}
use Rattle.section.specs.Asked.{least_for, greatest_for, NoneAdmitted, Crushed, Parted, Barred, Asked}
use Rattle.section.specs.Truths.{Crushes, Parts, Stands, Causes}
use Rattle.section.specs.declared.fibre.Fibre.{Fibre}
use Rattle.section.specs.ForceRises.{force_rises}
use Rattle.section.proofs.Limits.{admitted_range, least_admitted, greatest_admitted}
use Rattle.section.proofs.Outcome.{crushed_above, parted_below}

same_number : (r : Refusal) (m n : ℕ) (ps qs : List ℤ) → Says r m ps → Says r n qs → m ≡ n
same_number r m n ps qs a b = sym a.number_is ∙ b.number_is

-- the ground of a refusal by its number
module _ (laws : List Meaning) (fibres : List Fibre) (load : ℤ) (curvature : ℕ) (r : Refusal) (ps : List ℤ) where
  by_13 : Says r 13 ps → Barred laws fibres load curvature r → NoneAdmitted laws fibres curvature r
  by_13 s (inl c) = let e = same_number r _ _ _ _ s c.1 in absurd (omega arith)
  by_13 s (inr (inl c)) = let e = same_number r _ _ _ _ s c.2 in absurd (omega arith)
  by_13 s (inr (inr (inl c))) = c
  by_13 s (inr (inr (inr (inl c)))) = let e = same_number r _ _ _ _ s c.says in absurd (omega arith)
  by_13 s (inr (inr (inr (inr c)))) = let e = same_number r _ _ _ _ s c.says in absurd (omega arith)

  by_14 : Says r 14 ps → Barred laws fibres load curvature r → Crushed laws fibres load curvature r
  by_14 s (inl c) = let e = same_number r _ _ _ _ s c.1 in absurd (omega arith)
  by_14 s (inr (inl c)) = let e = same_number r _ _ _ _ s c.2 in absurd (omega arith)
  by_14 s (inr (inr (inl c))) = let e = same_number r _ _ _ _ s c.says in absurd (omega arith)
  by_14 s (inr (inr (inr (inl c)))) = c
  by_14 s (inr (inr (inr (inr c)))) = let e = same_number r _ _ _ _ s c.says in absurd (omega arith)

  by_15 : Says r 15 ps → Barred laws fibres load curvature r → Parted laws fibres load curvature r
  by_15 s (inl c) = let e = same_number r _ _ _ _ s c.1 in absurd (omega arith)
  by_15 s (inr (inl c)) = let e = same_number r _ _ _ _ s c.2 in absurd (omega arith)
  by_15 s (inr (inr (inl c))) = let e = same_number r _ _ _ _ s c.says in absurd (omega arith)
  by_15 s (inr (inr (inr (inl c)))) = let e = same_number r _ _ _ _ s c.says in absurd (omega arith)
  by_15 s (inr (inr (inr (inr c)))) = c

module _ (laws : List Meaning) (lawful : AllByRecursion Lawful laws) (fibres : List Fibre) (ranged : AllByRecursion Ranged fibres) (load : ℤ) (depth curvature : ℕ) (r : Refusal) where
  module _ (top : ℤ) (t : TopStrain top) where
    none_cause : (c : NoneAdmitted laws fibres curvature r) → Stands fibres c.compressed (Crushes laws curvature top) ⊎ Stands fibres c.stretched (Parts laws curvature top)
    none_cause c = by_lt_z top (least_for laws curvature c.sets_least.fibre)
        (λ h. inl (c.sets_least.fibre, c.sets_least.stands, omega (arith, ints)))
        (λ h. by_lt_z (greatest_for laws curvature c.sets_greatest.fibre) top
        (λ k. inr (c.sets_greatest.fibre, c.sets_greatest.stands, omega (arith, ints)))
        (λ k. absurd (c.none top ((admitted_range laws lawful fibres ranged curvature c.askable.0 _ _ c.sets_least c.sets_greatest top).1 (h, k)))))

    crushed_cause : (c : Crushed laws fibres load curvature r) → force laws fibres curvature top ≤ℤ load → Stands fibres c.place (Crushes laws curvature top)
    crushed_cause c b = by_lt_z top (least_for laws curvature c.sets_least.fibre)
        (λ h. (c.sets_least.fibre, c.sets_least.stands, omega (arith, ints)))
        (λ h.
        let a = least_admitted laws lawful fibres ranged curvature c.askable.0 c.place c.sets_least c.least c.is_least.holds in
        let l = force_rises laws lawful curvature c.askable.0 fibres ranged (least_for laws curvature c.sets_least.fibre) top a.0 t h in
        let k = crushed_above laws lawful fibres ranged load depth curvature r c (least_for laws curvature c.sets_least.fibre) a in
        absurd (omega (arith, ints)))

    parted_cause : (c : Parted laws fibres load curvature r) → load ≤ℤ force laws fibres curvature top → Stands fibres c.place (Parts laws curvature top)
    parted_cause c b = by_lt_z (greatest_for laws curvature c.sets_greatest.fibre) top
        (λ h. (c.sets_greatest.fibre, c.sets_greatest.stands, omega (arith, ints)))
        (λ h.
        let a = greatest_admitted laws lawful fibres ranged curvature c.askable.0 c.place c.sets_greatest c.greatest c.is_greatest.holds in
        let l = force_rises laws lawful curvature c.askable.0 fibres ranged top (greatest_for laws curvature c.sets_greatest.fibre) t a.0 h in
        let k = parted_below laws lawful fibres ranged load depth curvature r c (greatest_for laws curvature c.sets_greatest.fibre) a in
        absurd (omega (arith, ints)))

  pub causes_of : Asked laws fibres load depth curvature (Err r) → (top : ℤ) → TopStrain top → Causes laws fibres load curvature r top
  causes_of barred top t = record {
    none = λ p q s.
        let c = by_13 laws fibres load curvature r _ s barred in
        let a = s.places_are in
        let b = c.says.places_are in
        let e : c.compressed ≡ p = cc in
        let f : c.stretched ≡ q = cc in
        subst₂ (λ p q. Stands fibres p (Crushes laws curvature top) ⊎ Stands fibres q (Parts laws curvature top)) e f (none_cause top t c);
    crushed = λ p s h.
        let c = by_14 laws fibres load curvature r _ s barred in
        let a = s.places_are in
        let b = c.says.places_are in
        let e : c.place ≡ p = cc in
        subst (λ p. Stands fibres p (Crushes laws curvature top)) e (crushed_cause top t c h);
    parted = λ p s h.
        let c = by_15 laws fibres load curvature r _ s barred in
        let a = s.places_are in
        let b = c.says.places_are in
        let e : c.place ≡ p = cc in
        subst (λ p. Stands fibres p (Parts laws curvature top)) e (parted_cause top t c h);
  }
