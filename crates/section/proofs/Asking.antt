-- What the range of a row and the two searches over it show of an ask, as the machine passes the ends of the range and the load.
use Rattle.std.proofs.Common.{◌≡◌, ℕ, ◌≤◌, List, [], ℤ, ◌≤ℤ◌, ◌<ℤ◌, Some, Ok, Err, vec_items, ap, arith, w32, w64, SFits, to_z, of_z}
use Rattle.std.specs.List.{AllByRecursion, slice_get}
use Rattle.std.proofs.lemmas.Int.{ints, by_lt_z, to_z-of_z}
use Rattle.refusal.specs.declared.Refusal.TheVariants.{NoneAdmitted, Crushed, Parted}
use Rattle.search.specs.Points.{Least, Greatest, Nowhere}
use Rattle.laws.specs.Meaning.{Meaning, Lawful}
use Rattle.section.specs.Fibres.{force, moment, Ranged, TopStrain, Admitted}
use Rattle.section.specs.Asked.{Askable, Asked}
use Rattle.section.specs.ForceRises.{law_of_lawful, turned_most}
use Rattle.section.specs.Range.{SetsEnds}
use Rattle.section.specs.Ranges.{each_ranged}
use Rattle.section.specs.Truths.{Exactly, TruthsOf}
use Rattle.section.specs.declared.fibre.Fibre.{Fibre}
use Rattle.section.specs.declared.load.Load.{Load}
use Rattle.section.specs.declared.range.Range.{Range}
use Rattle.section.specs.declared.row.Row.{Row}
use Rattle.section.proofs.Limits.{all_nth, admitted_range}
use Rattle.section.proofs.Grounds.{none_admitted, crushed, parted, balanced}
use Rattle.section.proofs.Standing.{truths_of}

not_bare : (fibres : List Fibre) (p : ℕ) (f : Fibre) → slice_get fibres p ≡ Some f → fibres ≡ [] → ⊥
not_bare fibres p f stands bare = let e = ap (λ fs. slice_get fs p) bare in cc

ranged : {K : Type 0} (row : Row K) → AllByRecursion Ranged (vec_items row.fibres)
ranged row = each_ranged (vec_items row.fibres) row.ranged

load_is : (load : Load) → to_z w64 (of_z w64 load.force) ≡ load.force
load_is load = let l = load.ranged in omega (arith, ints)

module _ {K : Type 0} {laws : List Meaning} (lawful : AllByRecursion Lawful laws) (row : Row K) (load : Load) {curvature : ℕ} where
  pub truths : TruthsOf laws (vec_items row.fibres) load.force load.depth curvature
  truths = truths_of laws lawful (vec_items row.fibres) (ranged row) load.force load.depth curvature

  module _ (small : curvature ≤ 65535) {r : Range} (sets : SetsEnds laws (vec_items row.fibres) curvature r) where
    askable : Askable (vec_items row.fibres) curvature
    askable = (small, not_bare (vec_items row.fibres) r.least.fibre sets.sets_least.fibre sets.sets_least.stands)

    low_is : to_z w32 (of_z w32 r.least.top) ≡ r.least.top
    low_is =
        let f = sets.sets_least.fibre in
        let i = all_nth Ranged (vec_items row.fibres) (ranged row) r.least.fibre f sets.sets_least.stands in
        let m = turned_most curvature f small i in
        let l = (law_of_lawful laws lawful f).compression_in in
        let e = sets.least_is in
        omega (arith, ints)

    high_is : to_z w32 (of_z w32 r.greatest.top) ≡ r.greatest.top
    high_is =
        let f = sets.sets_greatest.fibre in
        let i = all_nth Ranged (vec_items row.fibres) (ranged row) r.greatest.fibre f sets.sets_greatest.stands in
        let m = turned_most curvature f small i in
        let l = (law_of_lawful laws lawful f).tension_in in
        let e = sets.greatest_is in
        omega (arith, ints)

    -- the admitted top strains are those of the range
    within : (top : ℤ) → Exactly (Admitted laws (vec_items row.fibres) curvature top) ((r.least.top ≤ℤ top) × (top ≤ℤ r.greatest.top))
    within top =
        let l = sets.least_is in
        let g = sets.greatest_is in
        let e = admitted_range laws lawful (vec_items row.fibres) (ranged row) curvature small r.least.fibre r.greatest.fibre sets.sets_least sets.sets_greatest top in
        (λ a. let h = e.0 a in (omega (arith, ints), omega (arith, ints)), λ h. e.1 (omega (arith, ints), omega (arith, ints)))

    pub covered : (top : ℤ) → to_z w32 (of_z w32 r.least.top) ≤ℤ top → top ≤ℤ to_z w32 (of_z w32 r.greatest.top) → TopStrain top
    covered top a b = let l = low_is in let h = high_is in ((within top).1 (omega (arith, ints), omega (arith, ints))).0

    pub passed : (top : ℤ) → to_z w32 (of_z w32 r.least.top) ≤ℤ top → top ≤ℤ to_z w32 (of_z w32 r.greatest.top) → TopStrain (to_z w32 (of_z w32 top))
    passed top a b = let t = covered top a b in (omega (arith, ints), omega (arith, ints))

    pub crossed : to_z w32 (of_z w32 r.greatest.top) <ℤ to_z w32 (of_z w32 r.least.top)
        → Asked laws (vec_items row.fibres) load.force load.depth curvature (Err (NoneAdmitted r.least.fibre r.greatest.fibre))
    crossed c =
        let l = low_is in
        let h = high_is in
        none_admitted laws (vec_items row.fibres) load.force load.depth curvature askable _ _ sets.sets_least sets.sets_greatest _ _ within (omega (arith, ints))

    module _ (wide : to_z w32 (of_z w32 r.least.top) ≤ℤ to_z w32 (of_z w32 r.greatest.top)) where
      wide_is : r.least.top ≤ℤ r.greatest.top
      wide_is = let l = low_is in let h = high_is in omega (arith, ints)

      pub all_above : Nowhere (λ top. force laws (vec_items row.fibres) curvature top ≤ℤ to_z w64 (of_z w64 load.force)) (to_z w32 (of_z w32 r.least.top)) (to_z w32 (of_z w32 r.greatest.top))
          → Asked laws (vec_items row.fibres) load.force load.depth curvature (Err (Crushed r.least.fibre))
      all_above none =
          let l = low_is in
          let k = load_is load in
          crushed laws (vec_items row.fibres) load.force load.depth curvature askable _ _ sets.sets_least sets.sets_greatest _ _ within wide_is
          (by_lt_z load.force (force laws (vec_items row.fibres) curvature r.least.top) (λ a. a) (λ a. absurd (none r.least.top (omega (arith, ints)) (omega (arith, ints)) (omega (arith, ints)))))

      pub all_below : Nowhere (λ top. to_z w64 (of_z w64 load.force) ≤ℤ force laws (vec_items row.fibres) curvature top) (to_z w32 (of_z w32 r.least.top)) (to_z w32 (of_z w32 r.greatest.top))
          → Asked laws (vec_items row.fibres) load.force load.depth curvature (Err (Parted r.greatest.fibre))
      all_below none =
          let l = low_is in
          let h = high_is in
          let k = load_is load in
          parted laws (vec_items row.fibres) load.force load.depth curvature askable _ _ sets.sets_least sets.sets_greatest _ _ within wide_is
          (by_lt_z (force laws (vec_items row.fibres) curvature r.greatest.top) load.force (λ a. a) (λ a. absurd (none r.greatest.top (omega (arith, ints)) (omega (arith, ints)) (omega (arith, ints)))))

    pub between : (first last m n : ℤ) → SFits w64 m → SFits w64 n
        → Least (λ top. to_z w64 (of_z w64 load.force) ≤ℤ force laws (vec_items row.fibres) curvature top) (to_z w32 (of_z w32 r.least.top)) (to_z w32 (of_z w32 r.greatest.top)) first
        → Greatest (λ top. force laws (vec_items row.fibres) curvature top ≤ℤ to_z w64 (of_z w64 load.force)) (to_z w32 (of_z w32 r.least.top)) (to_z w32 (of_z w32 r.greatest.top)) last
        → m ≡ moment laws (vec_items row.fibres) load.force load.depth curvature (to_z w32 (of_z w32 first))
        → n ≡ moment laws (vec_items row.fibres) load.force load.depth curvature (to_z w32 (of_z w32 last))
        → Asked laws (vec_items row.fibres) load.force load.depth curvature (Ok (record { first = to_z w32 (of_z w32 first); last = to_z w32 (of_z w32 last); first_moment = to_z w64 (of_z w64 m); last_moment = to_z w64 (of_z w64 n) }))
    between first last m n fits-m fits-n least greatest m_is n_is =
        let l = low_is in
        let h = high_is in
        let k = load_is load in
        let f = covered first least.from least.to in
        let g = covered last greatest.from greatest.to in
        let p : to_z w32 (of_z w32 first) ≡ first = omega (arith, ints) in
        let q : to_z w32 (of_z w32 last) ≡ last = omega (arith, ints) in
        rw (p, q, to_z-of_z w64 m fits-m, to_z-of_z w64 n fits-n)
        (balanced laws (vec_items row.fibres) load.force load.depth curvature askable _ _ sets.sets_least sets.sets_greatest _ _ within
        (record { first = first; last = last; first_moment = m; last_moment = n }) (rw (l, h, k) at least) (rw (l, h, k) at greatest) (rw p at m_is) (rw q at n_is))
