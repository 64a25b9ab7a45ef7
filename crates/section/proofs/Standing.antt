-- How the ends lie and when an ask is refused; with the rest, what every ask is true to.
use Rattle.std.proofs.Common.{◌≡◌, ℕ, ◌≤◌, List, ℤ, pos, ◌+ℤ◌, ◌≤ℤ◌, ◌<ℤ◌, Ok, Err, Result, refl, inl, inr, arith}
use Rattle.std.specs.List.{AllByRecursion}
use Rattle.std.proofs.lemmas.Int.{ints, by_lt_z}
use Rattle.refusal.specs.declared.Refusal.{Refusal}
use Rattle.laws.specs.Meaning.{Meaning, Lawful}
use Rattle.section.specs.Fibres.{force, Ranged, TopStrain, Admitted}
use Rattle.section.specs.Asked.{Askable, Asked}
use Rattle.section.specs.Truths.{Exactly, Only, Balances, Enclosing, TruthsOf}
use Rattle.section.specs.declared.fibre.Fibre.{Fibre}
use Rattle.section.specs.declared.ends.Ends.{Ends}
use Rattle.section.specs.ForceRises.{force_rises}
use Rattle.section.proofs.Limits.{admitted_between, admitted_range}
use Rattle.section.proofs.Outcome.{crushed_above, parted_below, one_outcome}
use Rattle.section.proofs.Finding.{has_outcome}
use Rattle.section.proofs.Causes.{causes_of}

module _ (laws : List Meaning) (lawful : AllByRecursion Lawful laws) (fibres : List Fibre) (ranged : AllByRecursion Ranged fibres) (load : ℤ) (depth curvature : ℕ) where
  rises : curvature ≤ 65535 → (x y : ℤ) → TopStrain x → TopStrain y → x ≤ℤ y → force laws fibres curvature x ≤ℤ force laws fibres curvature y
  rises small = force_rises laws lawful curvature small fibres ranged

  module _ (e : Ends) (asked : Asked laws fibres load depth curvature (Ok e)) where
    first_in : Admitted laws fibres curvature e.first
    first_in = asked.1.first_end.holds.0

    last_in : Admitted laws fibres curvature e.last
    last_in = asked.1.last_end.holds.0

    first_enough : load ≤ℤ force laws fibres curvature e.first
    first_enough = asked.1.first_end.holds.1

    last_enough : force laws fibres curvature e.last ≤ℤ load
    last_enough = asked.1.last_end.holds.1

    -- what balances the load lies from the first end to the last
    balances_from : (top : ℤ) → Balances laws fibres load curvature top → e.first ≤ℤ top
    balances_from top b = let h = b.1 in asked.1.first_end.first top (b.0, omega (arith, ints))

    balances_to : (top : ℤ) → Balances laws fibres load curvature top → top ≤ℤ e.last
    balances_to top b = let h = b.1 in asked.1.last_end.last top (b.0, omega (arith, ints))

    -- the first end balances the load if it is not past a top strain whose force is not above the load, and likewise the last
    first_balances : (top : ℤ) → TopStrain top → force laws fibres curvature top ≤ℤ load → e.first ≤ℤ top → Balances laws fibres load curvature e.first
    first_balances top t b h =
        let r = rises asked.0.0 e.first top first_in.0 t h in
        let f = first_enough in
        (first_in, omega (arith, ints))

    last_balances : (top : ℤ) → TopStrain top → load ≤ℤ force laws fibres curvature top → top ≤ℤ e.last → Balances laws fibres load curvature e.last
    last_balances top t b h =
        let r = rises asked.0.0 top e.last t last_in.0 h in
        let f = last_enough in
        (last_in, omega (arith, ints))

    -- the first end is at most one past the last
    ends_near : e.last <ℤ e.first → e.first ≡ e.last +ℤ pos 1
    ends_near h =
        let next : Admitted laws fibres curvature (e.last +ℤ pos 1) =
        admitted_between laws fibres curvature e.last (e.last +ℤ pos 1) e.first last_in first_in (omega (arith, ints)) (omega (arith, ints)) in
        by_lt_z load (force laws fibres curvature (e.last +ℤ pos 1))
        (λ above. let k = asked.1.first_end.first (e.last +ℤ pos 1) (next, omega (arith, ints)) in omega (arith, ints))
        (λ below. let k = asked.1.last_end.last (e.last +ℤ pos 1) (next, below) in absurd (omega (arith, ints)))

    ends_meet : Exactly (e.first ≡ e.last) (Only (Balances laws fibres load curvature))
    ends_meet = (
      λ h. (
        e.first,
        first_balances e.last last_in.0 last_enough (omega (arith, ints)),
        λ y b.
            let k = balances_from y b in let l = balances_to y b in omega (arith, ints),
      ),
      λ o.
          let b = o.1 in
          let k = o.1.1 in
          let x = o.2 e.first (first_balances o.0 b.0.0 (omega (arith, ints)) (balances_from o.0 b)) in
          let y = o.2 e.last (last_balances o.0 b.0.0 (omega (arith, ints)) (balances_to o.0 b)) in
          omega (arith, ints),
    )

    ends_part : ((top : ℤ) → Balances laws fibres load curvature top → ⊥) → e.first ≡ e.last +ℤ pos 1
    ends_part none = by_lt_z e.last e.first ends_near (λ h. absurd (none e.first (first_balances e.last last_in.0 last_enough h)))

    ends_pass : (top : ℤ) → Balances laws fibres load curvature top → e.first ≤ℤ e.last
    ends_pass top b = let h = balances_from top b in let k = balances_to top b in omega (arith, ints)

    ends_enclose : Enclosing laws fibres load curvature
    ends_enclose = by_lt_z e.last e.first
        (λ h. record { lower = e.last; upper = e.first; near = inr (ends_near h); lower_in = last_in; upper_in = first_in; below = last_enough; above = first_enough })
        (λ h.
        let b = first_balances e.last last_in.0 last_enough h in
        let k = b.1 in
        record { lower = e.first; upper = e.first; near = inl refl; lower_in = first_in; upper_in = first_in; below = omega (arith, ints); above = first_enough })

  refused_open : (r : Refusal) → Askable fibres curvature → Asked laws fibres load depth curvature (Err r) → Enclosing laws fibres load curvature → ⊥
  refused_open r askable (inl c) n = let h = c.0 in let k = askable.0 in omega arith
  refused_open r askable (inr (inl c)) n = askable.1 c.1
  refused_open r askable (inr (inr (inl c))) n = c.none n.lower n.lower_in
  refused_open r askable (inr (inr (inr (inl c)))) n =
      let h = crushed_above laws lawful fibres ranged load depth curvature r c n.lower n.lower_in in let k = n.below in omega (arith, ints)
  refused_open r askable (inr (inr (inr (inr c)))) n =
      let h = parted_below laws lawful fibres ranged load depth curvature r c n.upper n.upper_in in let k = n.above in omega (arith, ints)

  open_refused : (o : Result Ends Refusal) → Asked laws fibres load depth curvature o → (Enclosing laws fibres load curvature → ⊥)
      → (r : Refusal) × Asked laws fibres load depth curvature (Err r)
  open_refused (Ok e) a none = absurd (none (ends_enclose e a))
  open_refused (Err r) a none = (r, a)

  pub truths_of : TruthsOf laws fibres load depth curvature
  truths_of =
      let o = has_outcome laws lawful fibres ranged load depth curvature in
      record {
        rising = rises;
        bounded = λ small. admitted_range laws lawful fibres ranged curvature small;
        one_outcome = (o.0, o.1, λ p a. one_outcome laws lawful fibres ranged load depth curvature p o.0 a o.1);
        alone = ends_meet;
        apart = λ e a. (ends_part e a, ends_pass e a);
        enclosed = λ askable. (λ a. refused_open a.0 askable a.1, open_refused o.0 o.1);
        causes = causes_of laws lawful fibres ranged load depth curvature;
      }
