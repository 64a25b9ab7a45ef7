-- The products and the sums of a row of fibres, as the machine takes them.
use Rattle.std.proofs.Common.{◌≡◌, ℕ, ◌+◌, ◌<◌, ◌≤◌, List, length, get_or, take, ℤ, pos, ◌+ℤ◌, ◌-ℤ◌, ◌*ℤ◌, Some, None, Option, unwrap_or, vec_items, sym, refl, ap, ◌∙◌, subst, arith, take_all, w32, w64, SFits, to_z, of_z}
use Rattle.std.specs.Option.{option_map}
use Rattle.std.specs.List.{AllByRecursion}
use Rattle.std.proofs.lemmas.Int.{ints, to_z-of_z}
use Rattle.std.proofs.lemmas.List.{length-take}
use Rattle.std.proofs.lemmas.List.Elements.{All-from_recursion, recursion_from_All, All-take}
use Rattle.std.proofs.lemmas.List.Sums.{fold_more}
use Rattle.std.proofs.lemmas.Option.{slice_get-get_or}
use Rattle.laws.specs.Meaning.{Meaning, Lawful}
use Rattle.kits.specs.Kits.{stress_of}
use Rattle.section.specs.Fibres.{law_or_none, pull, Ranged}
use Rattle.section.specs.Ranges.{each_ranged}
use Rattle.section.specs.declared.fibre.Fibre.{Fibre}
use Rattle.section.specs.declared.load.Load.{Load}
use Rattle.section.specs.declared.plane.Plane.{Plane}
use Rattle.section.specs.declared.row.Row.{Row}
use Rattle.section.proofs.Limits.{all_nth}
use Rattle.section.proofs.Bounds.{Within, lever, lever_small, load_within, total, total_within}

-- the stress that a kit answers, or 0, is that of the fibre's law
pub stress_is : (o : Option Meaning) (e : ℤ) → unwrap_or (option_map (stress_of e) o) (pos 0) ≡ (law_or_none o).stress e
stress_is None e = refl
stress_is (Some law) e = refl

-- an area times a stress
pub product_is_whole : (n : ℕ) (z : ℤ) → n ≤ 2000000 → SFits w32 z → (to_z w64 n *ℤ to_z w64 (of_z w64 (to_z w32 (of_z w32 z)))) ≡ (pos n *ℤ z)
product_is_whole n z h f =
    let e : SFits w64 z = omega (arith, ints) in
    let p : to_z w64 n ≡ pos n = omega (arith, ints) in
    simp (to_z-of_z, p)

-- a force times a depth
lever_is_whole : (n : ℕ) (z : ℤ) → n ≤ 4096 → SFits w64 z → (to_z w64 (of_z w64 z) *ℤ to_z w64 n) ≡ (z *ℤ pos n)
lever_is_whole n z h f = let p : to_z w64 n ≡ pos n = omega (arith, ints) in simp (to_z-of_z, p)

module _ (laws : List Meaning) (lawful : AllByRecursion Lawful laws) (p : Plane) (f : Fibre) (r : Ranged f) (v : ℤ) (fits : SFits w64 v) (v_is : v ≡ pull laws p.curvature.number p.top f) where
  pub lever_taken : (to_z w64 (of_z w64 v) *ℤ to_z w64 f.depth) ≡ lever laws p.curvature.number p.top f
  lever_taken = lever_is_whole f.depth v r.depth_most fits ∙ ap (λ z. z *ℤ pos f.depth) v_is

  pub lever_fits : SFits w64 (to_z w64 (of_z w64 v) *ℤ to_z w64 f.depth)
  lever_fits = let w = lever_small laws lawful p f r in let e : SFits w64 (lever laws p.curvature.number p.top f) = omega (arith, ints) in rw lever_taken e

-- a loop over the fibres of a row, where the code has a name of its own for their list
module _ {K : Type 0} (row : Row K) (items : List Fibre) (same : items ≡ vec_items row.fibres) where
  ranged : AllByRecursion Ranged items
  ranged = subst (AllByRecursion Ranged) (sym same) (each_ranged (vec_items row.fibres) row.ranged)

  few : length items ≤ 512
  few = let e = ap length same in let f = row.few in omega arith

  pub item_ranged : (i : ℕ) (d : Fibre) → i < length items → Ranged (get_or items i d)
  item_ranged i d inside = all_nth Ranged items ranged i _ (slice_get-get_or items i d inside)

  module _ (value : Fibre → ℤ) (each : (f : Fibre) → Ranged f → Within 2457600000000000 (value f))
      (i : ℕ) (sum : ℤ) (sum_is : sum ≡ total value (take i (vec_items row.fibres))) where
    module _ (d : Fibre) (inside : i < length items) (v : ℤ) (fits : SFits w64 v) (v_is : v ≡ value (get_or items i d)) where
      more : sum +ℤ v ≡ total value (take (i + 1) items)
      more =
          ap (λ s. s +ℤ v) (sum_is ∙ ap (λ fs. total value (take i fs)) (sym same))
          ∙ ap (λ e. total value (take i items) +ℤ e) v_is
          ∙ sym (fold_more (λ sum f. sum +ℤ value f) (pos 0) items i d inside)

      pub more_fits : SFits w64 (sum +ℤ to_z w64 (of_z w64 v))
      more_fits =
          let front = recursion_from_All Ranged (take (i + 1) items) (All-take Ranged (i + 1) items (All-from_recursion Ranged items ranged)) in
          let w = total_within value each (take (i + 1) items) front (let l = length-take (i + 1) items in let f = few in omega arith) in
          let e = more in
          rw (to_z-of_z w64 v fits) (omega (arith, ints))

      pub more_is : to_z w64 (of_z w64 (sum +ℤ to_z w64 (of_z w64 v))) ≡ total value (take (i + 1) (vec_items row.fibres))
      more_is =
          to_z-of_z w64 _ more_fits ∙ ap (λ z. sum +ℤ z) (to_z-of_z w64 v fits) ∙ more
          ∙ ap (λ fs. total value (take (i + 1) fs)) same

    module _ (all : length items ≤ i) where
      pub total_is : sum ≡ total value (vec_items row.fibres)
      total_is = sum_is ∙ ap (total value) (take_all i (vec_items row.fibres) (let e = ap length same in omega arith))

      pub sum_within : Within 1258291200000000000 sum
      sum_within = subst (Within 1258291200000000000) (ap (total value) same ∙ sym total_is) (total_within value each items ranged few)

-- what is left of a sum once the load's share is taken off
module _ (load : Load) where
  share_is : (to_z w64 (of_z w64 load.force) *ℤ to_z w64 load.depth) ≡ (load.force *ℤ pos load.depth)
  share_is = let r = load.ranged in lever_is_whole load.depth load.force r.depth_most (omega (arith, ints))

  pub share_fits : SFits w64 (to_z w64 (of_z w64 load.force) *ℤ to_z w64 load.depth)
  share_fits = let w = load_within load.force load.depth load.ranged in let e : SFits w64 (load.force *ℤ pos load.depth) = omega (arith, ints) in rw share_is e

  module _ (sum : ℤ) (within : Within 1258291200000000000 sum) where
    pub rest_fits : SFits w64 (sum -ℤ to_z w64 (of_z w64 (to_z w64 (of_z w64 load.force) *ℤ to_z w64 load.depth)))
    rest_fits =
        let w = load_within load.force load.depth load.ranged in
        let f = share_fits in
        let e = share_is in
        omega (arith, ints)

    pub rest_is : to_z w64 (of_z w64 (sum -ℤ to_z w64 (of_z w64 (to_z w64 (of_z w64 load.force) *ℤ to_z w64 load.depth)))) ≡ (sum -ℤ load.force *ℤ pos load.depth)
    rest_is = to_z-of_z w64 _ rest_fits ∙ ap (λ z. sum -ℤ z) (to_z-of_z w64 _ share_fits ∙ share_is)
