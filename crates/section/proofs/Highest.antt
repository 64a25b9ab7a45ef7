-- The first of the highest values among the fibres before a position, and the range that a loop over them keeps.
use Rattle.std.proofs.Common.{◌≡◌, ℕ, zero, suc, ◌+◌, ◌<◌, ◌≤◌, cond, List, [], ◌∷◌, length, get_or, ℤ, pos, neg_ℤ, ◌≤ℤ◌, ◌<ℤ◌, Some, None, Option, MatchOption, sym, refl, subst, inl, inr, arith, add-one}
use lib.Signed.{lt_z}
use Rattle.std.specs.List.{slice_get}
use Rattle.std.proofs.lemmas.Option.{slice_get_past, slice_get-get_or}
use Rattle.std.proofs.lemmas.Int.{ints, by_lt_z}
use Rattle.std.proofs.lemmas.Bool.{cases_lt, cond_both}
use Rattle.laws.specs.Meaning.{Meaning}
use Rattle.section.specs.Asked.{least_for, greatest_for, SetsLeast, SetsGreatest}
use Rattle.section.specs.Range.{SetsEnds}
use Rattle.section.specs.declared.fibre.Fibre.{Fibre}
use Rattle.section.specs.declared.range.End.{End}
use Rattle.section.specs.declared.range.Range.{Range}

-- a value stands at a place before i, none before i is higher, and each before the place is lower
pub record First (value : Fibre → ℤ) (fibres : List Fibre) (i : ℕ) (best : ℤ) (place : ℕ) : Type 0 where
  pub fibre : Fibre
  pub stands : slice_get fibres place ≡ Some fibre
  pub is : best ≡ value fibre
  pub before : place < i
  pub most : (q : ℕ) (g : Fibre) → q < i → slice_get fibres q ≡ Some g → value g ≤ℤ best
  pub lowest : (q : ℕ) (g : Fibre) → q < place → slice_get fibres q ≡ Some g → value g <ℤ best

module _ (value : Fibre → ℤ) (fibres : List Fibre) where
  same_value : (q : ℕ) (f g : Fibre) → slice_get fibres q ≡ Some f → slice_get fibres q ≡ Some g → value f ≡ value g
  same_value q f g a b = let e : f ≡ g = cc in cc

  module _ (i : ℕ) (f : Fibre) (stands : slice_get fibres i ≡ Some f) where
    upto : (bound : ℤ) → value f ≤ℤ bound → ((q : ℕ) (g : Fibre) → q < i → slice_get fibres q ≡ Some g → value g ≤ℤ bound)
        → (q : ℕ) (g : Fibre) → q < i + 1 → slice_get fibres q ≡ Some g → value g ≤ℤ bound
    upto bound h below q g l e = elim (cases_lt q i) [
      | inl k ↦ below q g k e
      | inr k ↦
          let s : q ≡ i = omega arith in
          let p = same_value i f g stands (subst (λ j. slice_get fibres j ≡ Some g) s e) in
          omega (arith, ints)
    ]

    -- the value at i, under the names that the code has for it and for i
    module _ (v : ℤ) (v_is : v ≡ value f) (p : ℕ) (p_is : p ≡ i) where
      here : slice_get fibres p ≡ Some f
      here = subst (λ j. slice_get fibres j ≡ Some f) (sym p_is) stands

      pub first_alone : i ≡ 0 → First value fibres (i + 1) v p
      first_alone z = record {
        fibre = f;
        stands = here;
        is = v_is;
        before = omega arith;
        most = upto v (omega (arith, ints)) (λ q g l e. absurd (omega arith));
        lowest = λ q g l e. absurd (omega arith);
      }

      pub first_beaten : (best : ℤ) (place : ℕ) → First value fibres i best place → best <ℤ v → First value fibres (i + 1) v p
      first_beaten best place known h = record {
        fibre = f;
        stands = here;
        is = v_is;
        before = omega arith;
        most = upto v (omega (arith, ints)) (λ q g l e. let k = known.most q g l e in omega (arith, ints));
        lowest = λ q g l e. let k = known.most q g (omega arith) e in omega (arith, ints);
      }

      pub first_stays : (best : ℤ) (place : ℕ) → First value fibres i best place → v ≤ℤ best → First value fibres (i + 1) best place
      first_stays best place known h = record {
        fibre = known.fibre;
        stands = known.stands;
        is = known.is;
        before = let b = known.before in omega arith;
        most = upto best (omega (arith, ints)) known.most;
        lowest = known.lowest;
      }

  -- past the last fibre, none at all is higher
  pub first_of_all : (i : ℕ) (best : ℤ) (place : ℕ) → length fibres ≤ i → First value fibres i best place
      → (q : ℕ) (g : Fibre) → slice_get fibres q ≡ Some g → value g ≤ℤ best
  first_of_all i best place all known q g e = elim (cases_lt q i) [
    | inl k ↦ known.most q g k e
    | inr k ↦ let n = slice_get_past fibres q (omega arith) in cc
  ]

  -- there is one as soon as there is a fibre
  pub first_found : (i : ℕ) → i < length fibres → (best : ℤ) × (place : ℕ) × First value fibres (i + 1) best place
  first_found zero inside =
      let f = get_or fibres 0 (record { depth = 0; area = 0; material = 0; initial = pos 0 }) in
      (value f, 0, first_alone 0 f (slice_get-get_or fibres 0 _ inside) (value f) refl 0 refl refl)
  first_found (suc i) inside =
      let f = get_or fibres (suc i) (record { depth = 0; area = 0; material = 0; initial = pos 0 }) in
      let k = first_found i (omega arith) in
      let known = rw add-one at k.2 in
      by_lt_z k.0 (value f)
      (λ b. (value f, suc i, first_beaten (suc i) f (slice_get-get_or fibres (suc i) _ inside) (value f) refl (suc i) refl k.0 k.1 known b))
      (λ b. (k.0, k.1, first_stays (suc i) f (slice_get-get_or fibres (suc i) _ inside) (value f) refl (suc i) refl k.0 k.1 known b))

module _ (laws : List Meaning) (fibres : List Fibre) (curvature i : ℕ) (best : ℤ) (place : ℕ) (all : length fibres ≤ i) where
  -- past the last fibre, it sets an end of the range
  abbrev pub least_set : First (least_for laws curvature) fibres i best place → SetsLeast laws fibres curvature place
  least_set known =
      let is = known.is in
      record {
        fibre = known.fibre;
        stands = known.stands;
        most = λ q g e. let h = first_of_all _ fibres i _ _ all known q g e in omega (arith, ints);
        lowest = λ q g l e. let h = known.lowest q g l e in omega (arith, ints);
      }

  abbrev pub greatest_set : First (λ f. neg_ℤ (greatest_for laws curvature f)) fibres i best place → SetsGreatest laws fibres curvature place
  greatest_set known =
      let is = known.is in
      record {
        fibre = known.fibre;
        stands = known.stands;
        least = λ q g e. let h = first_of_all _ fibres i _ _ all known q g e in omega (arith, ints);
        lowest = λ q g l e. let h = known.lowest q g l e in omega (arith, ints);
      }

none_left : (fibres : List Fibre) → length fibres ≤ 0 → fibres ≡ []
none_left [] h = refl
none_left (f ∷ fibres) h = absurd (omega arith)

-- after i fibres, at least one
pub record Narrowed (laws : List Meaning) (fibres : List Fibre) (curvature i : ℕ) (r : Range) : Type 0 where
  pub low : First (least_for laws curvature) fibres i r.least.top r.least.fibre
  pub high : First (λ f. neg_ℤ (greatest_for laws curvature f)) fibres i (neg_ℤ r.greatest.top) r.greatest.fibre

module _ (laws : List Meaning) (fibres : List Fibre) (curvature : ℕ) where
  -- the range of the fibre at i alone
  pub record Own (i : ℕ) (f : Fibre) (r : Range) : Type 0 where
    pub stands : slice_get fibres i ≡ Some f
    pub least_is : r.least.top ≡ least_for laws curvature f
    pub greatest_is : r.greatest.top ≡ greatest_for laws curvature f
    pub least_place : r.least.fibre ≡ i
    pub greatest_place : r.greatest.fibre ≡ i

  module _ (i : ℕ) (f : Fibre) (r : Range) (own : Own i f r) where
    turned_is : neg_ℤ r.greatest.top ≡ neg_ℤ (greatest_for laws curvature f)
    turned_is = let e = own.greatest_is in omega (arith, ints)

    pub narrowed_first : i ≡ 0 → Narrowed laws fibres curvature (i + 1) r
    narrowed_first z = record {
      low = first_alone _ fibres i f own.stands r.least.top own.least_is r.least.fibre own.least_place z;
      high = first_alone _ fibres i f own.stands (neg_ℤ r.greatest.top) turned_is r.greatest.fibre own.greatest_place z;
    }

    module _ (before : Range) (known : Narrowed laws fibres curvature i before) (after : Range)
        (least_chosen : after.least ≡ cond (lt_z before.least.top r.least.top) r.least before.least)
        (greatest_chosen : after.greatest ≡ cond (lt_z r.greatest.top before.greatest.top) r.greatest before.greatest) where
      abbrev Low : End → Type 0
      Low e = First (least_for laws curvature) fibres (i + 1) e.top e.fibre

      abbrev High : End → Type 0
      High e = First (λ f. neg_ℤ (greatest_for laws curvature f)) fibres (i + 1) (neg_ℤ e.top) e.fibre

      pub narrowed_more : Narrowed laws fibres curvature (i + 1) after
      narrowed_more = record {
        low = subst Low (sym least_chosen) (cond_both (lt_z before.least.top r.least.top) r.least before.least Low
            (λ b. first_beaten _ fibres i f own.stands r.least.top own.least_is r.least.fibre own.least_place _ _ known.low (omega (arith, ints)))
            (λ b. first_stays _ fibres i f own.stands r.least.top own.least_is r.least.fibre own.least_place _ _ known.low (omega (arith, ints))));
        high = subst High (sym greatest_chosen) (cond_both (lt_z r.greatest.top before.greatest.top) r.greatest before.greatest High
            (λ b. first_beaten _ fibres i f own.stands (neg_ℤ r.greatest.top) turned_is r.greatest.fibre own.greatest_place _ _ known.high (omega (arith, ints)))
            (λ b. first_stays _ fibres i f own.stands (neg_ℤ r.greatest.top) turned_is r.greatest.fibre own.greatest_place _ _ known.high (omega (arith, ints))));
      }

  narrowed_last : (i : ℕ) (r : Range) → length fibres ≤ i → Narrowed laws fibres curvature i r → SetsEnds laws fibres curvature r
  narrowed_last i r all known =
      let high_is = known.high.is in
      record {
        sets_least = least_set laws fibres curvature i _ _ all known.low;
        least_is = known.low.is;
        sets_greatest = greatest_set laws fibres curvature i _ _ all known.high;
        greatest_is = omega (arith, ints);
      }

  -- past the last fibre
  pub narrowed_all : (i : ℕ) → length fibres ≤ i → (r : Option Range) → MatchOption r (i ≡ 0) (Narrowed laws fibres curvature i)
      → MatchOption r (fibres ≡ []) (SetsEnds laws fibres curvature)
  narrowed_all i all None none = none_left fibres (omega arith)
  narrowed_all i all (Some r) known = narrowed_last i r all known
