-- An ask comes to one thing only: the grounds exclude each other, and each determines what it says.
use Rattle.std.proofs.Common.{◌≡◌, ℕ, ◌⊎◌, List, [], ◌∷◌, ℤ, pos, ◌<ℤ◌, Ok, Err, Result, sym, ap, subst, ap₂, inl, inr, arith}
use Rattle.std.specs.List.{AllByRecursion}
use Rattle.std.proofs.lemmas.Int.{ints}
use Rattle.refusal.specs.Refusals.{Says}
use Rattle.refusal.specs.declared.Refusal.{Refusal}
use Rattle.refusal.proofs.Says.{says_once}
use Rattle.laws.specs.Meaning.{Meaning, Lawful}
use Rattle.section.specs.Fibres.{force, Ranged, Admitted}
use Rattle.section.specs.Asked.{Least, Greatest, Balanced, Askable, TooCurved, Bare, NoneAdmitted, Crushed, Parted, Barred, Asked}
use Rattle.section.specs.declared.fibre.Fibre.{Fibre}
use Rattle.section.specs.declared.ends.Ends.{Ends}
use Rattle.section.specs.ForceRises.{force_rises}
use Rattle.section.proofs.Limits.{sets_least_once, sets_greatest_once}

pub least_once : (P : ℤ → Type 0) (x y : ℤ) → Least P x → Least P y → x ≡ y
least_once P x y a b = let h = a.first y b.holds in let k = b.first x a.holds in omega (arith, ints)

pub greatest_once : (P : ℤ → Type 0) (x y : ℤ) → Greatest P x → Greatest P y → x ≡ y
greatest_once P x y a b = let h = a.last y b.holds in let k = b.last x a.holds in omega (arith, ints)

same_says : (r s : Refusal) (n : ℕ) (ps qs : List ℤ) → Says r n ps → Says s n qs → ps ≡ qs → r ≡ s
same_says r s n ps qs h k e = says_once r s n ps h (subst (Says s n) (sym e) k)

-- one refusal at most has the property; none has both
abbrev Once : (Refusal → Type 0) → Type 0
Once P = (r s : Refusal) → P r → P s → r ≡ s

abbrev Apart : (Refusal → Type 0) → (Refusal → Type 0) → Type 0
Apart P Q = (r s : Refusal) → P r → Q s → ⊥

either_once : (P Q : Refusal → Type 0) → Once P → Once Q → Apart P Q → Once (λ r. P r ⊎ Q r)
either_once P Q p q apart r s (inl a) (inl b) = p r s a b
either_once P Q p q apart r s (inl a) (inr b) = absurd (apart r s a b)
either_once P Q p q apart r s (inr a) (inl b) = absurd (apart s r b a)
either_once P Q p q apart r s (inr a) (inr b) = q r s a b

module _ (laws : List Meaning) (lawful : AllByRecursion Lawful laws) (fibres : List Fibre) (ranged : AllByRecursion Ranged fibres) (load : ℤ) (depth curvature : ℕ) where
  -- past a refusal for want of balance, every admitted force lies on one side of the load
  pub crushed_above : (r : Refusal) → Crushed laws fibres load curvature r → (top : ℤ) → Admitted laws fibres curvature top → load <ℤ force laws fibres curvature top
  crushed_above r c top a =
      let l = c.is_least.first top a in
      let f = force_rises laws lawful curvature c.askable.0 fibres ranged c.least top c.is_least.holds.0 a.0 l in
      let b = c.above in
      omega (arith, ints)

  pub parted_below : (r : Refusal) → Parted laws fibres load curvature r → (top : ℤ) → Admitted laws fibres curvature top → force laws fibres curvature top <ℤ load
  parted_below r c top a =
      let l = c.is_greatest.last top a in
      let f = force_rises laws lawful curvature c.askable.0 fibres ranged top c.greatest a.0 c.is_greatest.holds.0 l in
      let b = c.below in
      omega (arith, ints)

  abbrev Unbalanced : Refusal → Type 0
  Unbalanced r = Crushed laws fibres load curvature r ⊎ Parted laws fibres load curvature r

  abbrev Unmet : Refusal → Type 0
  Unmet r = NoneAdmitted laws fibres curvature r ⊎ Unbalanced r

  some_admitted : (r : Refusal) → Unbalanced r → (top : ℤ) × Admitted laws fibres curvature top
  some_admitted r (inl c) = (c.least, c.is_least.holds)
  some_admitted r (inr c) = (c.greatest, c.is_greatest.holds)

  unmet_askable : (r : Refusal) → Unmet r → Askable fibres curvature
  unmet_askable r (inl c) = c.askable
  unmet_askable r (inr (inl c)) = c.askable
  unmet_askable r (inr (inr c)) = c.askable

  unbalanced_once : Once Unbalanced
  unbalanced_once = either_once (Crushed laws fibres load curvature) (Parted laws fibres load curvature)
      (λ r s c d. same_says r s 14 _ _ c.says d.says (ap (λ p. pos p ∷ []) (sets_least_once laws fibres curvature _ _ c.sets_least d.sets_least)))
      (λ r s c d. same_says r s 15 _ _ c.says d.says (ap (λ p. pos p ∷ []) (sets_greatest_once laws fibres curvature _ _ c.sets_greatest d.sets_greatest)))
      (λ r s c d. let a = crushed_above r c d.greatest d.is_greatest.holds in let b = d.below in omega (arith, ints))

  unmet_once : Once Unmet
  unmet_once = either_once (NoneAdmitted laws fibres curvature) Unbalanced
      (λ r s c d. same_says r s 13 _ _ c.says d.says (ap₂ (λ p q. pos p ∷ pos q ∷ [])
      (sets_least_once laws fibres curvature _ _ c.sets_least d.sets_least) (sets_greatest_once laws fibres curvature _ _ c.sets_greatest d.sets_greatest)))
      unbalanced_once
      (λ r s c d. let a = some_admitted s d in c.none a.0 a.1)

  barred_once : Once (Barred laws fibres load curvature)
  barred_once = either_once (TooCurved curvature) (λ r. Bare fibres curvature r ⊎ Unmet r)
      (λ r s c d. says_once r s 11 [] c.1 d.1)
      (either_once (Bare fibres curvature) Unmet (λ r s c d. says_once r s 12 [] c.2 d.2) unmet_once (λ r s c d. (unmet_askable s d).1 c.1))
      (λ r s c d. elim d [ inl b ↦ let h = b.0 in let k = c.0 in omega arith | inr u ↦ let h = (unmet_askable s u).0 in let k = c.0 in omega arith ])

  pub balanced_unbarred : (e : Ends) (r : Refusal) → Asked laws fibres load depth curvature (Ok e) → Asked laws fibres load depth curvature (Err r) → ⊥
  balanced_unbarred e r b (inl c) = let h = b.0.0 in let k = c.0 in omega arith
  balanced_unbarred e r b (inr (inl c)) = b.0.1 c.1
  balanced_unbarred e r b (inr (inr (inl c))) = c.none e.first b.1.first_end.holds.0
  balanced_unbarred e r b (inr (inr (inr (inl c)))) =
      let h = crushed_above r c e.last b.1.last_end.holds.0 in let k = b.1.last_end.holds.1 in omega (arith, ints)
  balanced_unbarred e r b (inr (inr (inr (inr c)))) =
      let h = parted_below r c e.first b.1.first_end.holds.0 in let k = b.1.first_end.holds.1 in omega (arith, ints)

  ends_once : (e f : Ends) → Balanced laws fibres load depth curvature e → Balanced laws fibres load depth curvature f → e ≡ f
  ends_once e f a b =
      let p = least_once _ e.first f.first a.first_end b.first_end in
      let q = greatest_once _ e.last f.last a.last_end b.last_end in
      let m = a.first_moment_is in
      let n = b.first_moment_is in
      let u = a.last_moment_is in
      let v = b.last_moment_is in
      let x : e.first_moment ≡ f.first_moment = cc in
      let y : e.last_moment ≡ f.last_moment = cc in
      λ i. record { first = p i; last = q i; first_moment = x i; last_moment = y i }

  pub one_outcome : (o p : Result Ends Refusal) → Asked laws fibres load depth curvature o → Asked laws fibres load depth curvature p → o ≡ p
  one_outcome (Ok e) (Ok f) a b = ap Ok (ends_once e f a.1 b.1)
  one_outcome (Ok e) (Err s) a b = absurd (balanced_unbarred e s a b)
  one_outcome (Err r) (Ok f) a b = absurd (balanced_unbarred f r b a)
  one_outcome (Err r) (Err s) a b = ap Err (barred_once r s a b)
