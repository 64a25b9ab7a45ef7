-- An ask comes to something: the fibres that set the range are found along the row, and the ends along the range.
use Rattle.std.proofs.Common.{◌≡◌, ℕ, zero, suc, ◌≤◌, List, [], ◌∷◌, length, ℤ, pos, ◌+ℤ◌, ◌-ℤ◌, neg_ℤ, nat_abs, ◌≤ℤ◌, Ok, Err, Result, sym, refl, subst, inl, inr, arith}
use Rattle.std.specs.List.{AllByRecursion}
use Rattle.std.proofs.lemmas.Int.{ints, by_lt_z}
use Rattle.std.proofs.lemmas.Bool.{cases_lt}
use Rattle.refusal.specs.declared.Refusal.{Refusal}
use Rattle.refusal.specs.declared.Refusal.TheVariants.{TooCurved, EmptySection, NoneAdmitted, Crushed, Parted}
use Rattle.laws.specs.Meaning.{Meaning, Lawful}
use Rattle.section.specs.Fibres.{force, moment, Ranged, Admitted}
use Rattle.section.specs.Asked.{least_for, greatest_for, SetsLeast, SetsGreatest, Askable, Asked}
use Rattle.section.specs.Truths.{Exactly}
use Rattle.section.specs.declared.fibre.Fibre.{Fibre}
use Rattle.section.specs.declared.ends.Ends.{Ends}
use Rattle.section.proofs.Highest.{first_found, least_set, greatest_set}
use Rattle.section.proofs.Limits.{admitted_range}
use Rattle.section.proofs.Grounds.{none_admitted, crushed, parted, balanced}

module _ (laws : List Meaning) (curvature : ℕ) (f : Fibre) (fibres : List Fibre) where
  sets_least : (p : ℕ) × SetsLeast laws (f ∷ fibres) curvature p
  sets_least =
      let h = first_found (least_for laws curvature) (f ∷ fibres) (length fibres) (omega arith) in
      (h.1, least_set laws (f ∷ fibres) curvature _ h.0 h.1 (omega arith) h.2)

  sets_greatest : (p : ℕ) × SetsGreatest laws (f ∷ fibres) curvature p
  sets_greatest =
      let h = first_found (λ g. neg_ℤ (greatest_for laws curvature g)) (f ∷ fibres) (length fibres) (omega arith) in
      (h.1, greatest_set laws (f ∷ fibres) curvature _ h.0 h.1 (omega arith) h.2)

-- the first of n + 1 numbers, up from the lowest, at which a value is not below the load
module _ (value : ℤ → ℤ) (load : ℤ) where
  first_up : (n : ℕ) (low : ℤ) → load ≤ℤ value (low +ℤ pos n)
      → (x : ℤ) × (low ≤ℤ x) × (x ≤ℤ (low +ℤ pos n)) × (load ≤ℤ value x) × ((y : ℤ) → low ≤ℤ y → load ≤ℤ value y → x ≤ℤ y)
  first_up zero low h = (low, omega (arith, ints), omega (arith, ints), (let e : low +ℤ pos 0 ≡ low = omega (arith, ints) in subst (λ z. load ≤ℤ value z) e h), λ y l k. l)
  first_up (suc n) low h = by_lt_z (value low) load
      (λ below.
      let e : low +ℤ pos (suc n) ≡ (low +ℤ pos 1) +ℤ pos n = omega (arith, ints) in
      let r = first_up n (low +ℤ pos 1) (subst (λ z. load ≤ℤ value z) e h) in
      let a = r.1 in
      let b = r.2 in (
        r.0,
        omega (arith, ints),
        omega (arith, ints),
        r.3,
        λ y l k. by_lt_z low y
            (λ past. r.4 y (omega (arith, ints)) k)
            (λ here. let s : y ≡ low = omega (arith, ints) in let m = subst (λ z. load ≤ℤ value z) s k in absurd (omega (arith, ints))),
      ))
      (λ at. (low, omega (arith, ints), omega (arith, ints), at, λ y l k. l))

-- the same from low to high, and the last number there at which a value is not above the load
pub first_between : (value : ℤ → ℤ) (load low high : ℤ) → low ≤ℤ high → load ≤ℤ value high
    → (x : ℤ) × (low ≤ℤ x) × (x ≤ℤ high) × (load ≤ℤ value x) × ((y : ℤ) → low ≤ℤ y → load ≤ℤ value y → x ≤ℤ y)
first_between value load low high h k =
    let e : high ≡ low +ℤ pos (nat_abs (high -ℤ low)) = omega (arith, ints) in
    let r = first_up value load (nat_abs (high -ℤ low)) low (subst (λ z. load ≤ℤ value z) e k) in
    let b = r.2 in
    (r.0, r.1, omega (arith, ints), r.3, r.4)

pub last_between : (value : ℤ → ℤ) (load low high : ℤ) → low ≤ℤ high → value low ≤ℤ load
    → (x : ℤ) × (low ≤ℤ x) × (x ≤ℤ high) × (value x ≤ℤ load) × ((y : ℤ) → y ≤ℤ high → value y ≤ℤ load → y ≤ℤ x)
last_between value load low high h k =
    let back : (z : ℤ) → neg_ℤ (neg_ℤ z) ≡ z = λ z. omega (arith, ints) in
    let r = first_between (λ z. neg_ℤ (value (neg_ℤ z))) (neg_ℤ load) (neg_ℤ high) (neg_ℤ low) (omega (arith, ints))
    (subst (λ z. neg_ℤ load ≤ℤ neg_ℤ (value z)) (sym (back low)) (omega (arith, ints))) in
    let a = r.1 in
    let b = r.2 in
    let c = r.3 in (
      neg_ℤ r.0,
      omega (arith, ints),
      omega (arith, ints),
      omega (arith, ints),
      λ y l m.
          let n = r.4 (neg_ℤ y) (omega (arith, ints)) (subst (λ z. neg_ℤ load ≤ℤ neg_ℤ (value z)) (sym (back y)) (omega (arith, ints))) in
          omega (arith, ints),
    )

module _ (laws : List Meaning) (lawful : AllByRecursion Lawful laws) (f : Fibre) (rest : List Fibre) (ranged : AllByRecursion Ranged (f ∷ rest))
    (load : ℤ) (depth curvature : ℕ) (small : curvature ≤ 65535) where
  askable : Askable (f ∷ rest) curvature
  askable = (small, λ e. cc)

  module _ (p q : ℕ) (s : SetsLeast laws (f ∷ rest) curvature p) (t : SetsGreatest laws (f ∷ rest) curvature q) (low high : ℤ)
      (range : (top : ℤ) → Exactly (Admitted laws (f ∷ rest) curvature top) ((low ≤ℤ top) × (top ≤ℤ high))) where
    outcome_in : (o : Result Ends Refusal) × Asked laws (f ∷ rest) load depth curvature o
    outcome_in = by_lt_z high low
        (λ crossed. (Err (NoneAdmitted p q), none_admitted laws (f ∷ rest) load depth curvature askable p q s t low high range crossed))
        (λ wide. by_lt_z load (force laws (f ∷ rest) curvature low)
        (λ above. (Err (Crushed p), crushed laws (f ∷ rest) load depth curvature askable p q s t low high range wide above))
        (λ below. by_lt_z (force laws (f ∷ rest) curvature high) load
        (λ short. (Err (Parted q), parted laws (f ∷ rest) load depth curvature askable p q s t low high range wide short))
        (λ above.
        let x = first_between (force laws (f ∷ rest) curvature) load low high wide above in
        let y = last_between (force laws (f ∷ rest) curvature) load low high wide below in (
          Ok (record {
            first = x.0;
            last = y.0;
            first_moment = moment laws (f ∷ rest) load depth curvature x.0;
            last_moment = moment laws (f ∷ rest) load depth curvature y.0;
          }),
          balanced laws (f ∷ rest) load depth curvature askable p q s t low high range _
              (record { from = x.1; to = x.2; holds = x.3; first = λ z a b h. x.4 z a h })
              (record { from = y.1; to = y.2; holds = y.3; last = λ z a b h. y.4 z b h }) refl refl,
        ))))

  outcome_of : (o : Result Ends Refusal) × Asked laws (f ∷ rest) load depth curvature o
  outcome_of =
      let s = sets_least laws curvature f rest in
      let t = sets_greatest laws curvature f rest in
      outcome_in s.0 t.0 s.1 t.1 _ _ (admitted_range laws lawful (f ∷ rest) ranged curvature small s.0 t.0 s.1 t.1)

pub has_outcome : (laws : List Meaning) → AllByRecursion Lawful laws → (fibres : List Fibre) → AllByRecursion Ranged fibres → (load : ℤ) (depth curvature : ℕ)
    → (o : Result Ends Refusal) × Asked laws fibres load depth curvature o
has_outcome laws lawful [] ranged load depth curvature = elim (cases_lt 65535 curvature) [
  | inl l ↦ (Err TooCurved, inl (l, record { number_is = refl; places_are = refl }))
  | inr l ↦ (Err EmptySection, inr (inl (l, refl, record { number_is = refl; places_are = refl })))
]
has_outcome laws lawful (f ∷ rest) ranged load depth curvature = elim (cases_lt 65535 curvature) [
  | inl l ↦ (Err TooCurved, inl (l, record { number_is = refl; places_are = refl }))
  | inr l ↦ outcome_of laws lawful f rest ranged load depth curvature l
]
