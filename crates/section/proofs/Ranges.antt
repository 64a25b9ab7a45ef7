-- How the test that every fibre of a section passes is kept.
use Rattle.std.proofs.Common.{◌≡◌, ℕ, zero, suc, ◌≤◌, T, List, [], ◌∷◌, ◌++◌, ℤ, pos, neg_ℤ, nat_abs, ◌≤ℤ◌, refl, ap, ◌∙◌, arith, le→leb, w32, w64, SFits, to_z, of_z}
use lib.Ieee.Fits.{and_i, and_l, and_r}
use lib.Signed.{le_z, le_z_yes}
use Rattle.std.specs.List.{remove, AllByRecursion}
use Rattle.std.proofs.lemmas.Int.{ints, to_z-of_z}
use Rattle.std.proofs.lemmas.List.Folds.{list_all-append}
use Rattle.section.specs.declared.fibre.Fibre.{Fibre}
use Rattle.section.specs.Ranges.{ranged, all_ranged}
use Rattle.section.specs.Calls.{Within, fibre_figures, fibre_of}

-- ---- a fibre is taken out

removed : (fibres : List Fibre) (position : ℕ) → T (all_ranged fibres) → T (all_ranged (remove fibres position))
removed [] zero h = h
removed [] (suc position) h = h
removed (f ∷ fibres) zero h = and_r (ranged f) _ h
removed (f ∷ fibres) (suc position) h = and_i (ranged f) _ (and_l (ranged f) _ h) (removed fibres position (and_r (ranged f) _ h))

pub ranged_taken : (before after : List Fibre) (position : ℕ) → after ≡ remove before position → T (all_ranged before) → T (all_ranged after)
ranged_taken before after position is h = rw is (removed before position h)

-- ---- a fibre is put

module _ (least written most : ℤ) (in_range : Within (record { least = least; written = written; most = most })) where
  pub not_below : least ≤ℤ written
  not_below = le_z_yes (and_l (le_z least written) (le_z written most) in_range)

  pub not_above : written ≤ℤ most
  not_above = le_z_yes (and_r (le_z least written) (le_z written most) in_range)

module _ (depth area material initial : ℤ) (figures_in : AllByRecursion Within (fibre_figures depth area initial)) where
  -- figures in range make a fibre in range
  figures_ranged : T (ranged (fibre_of depth area material initial))
  figures_ranged =
      let d = not_below (pos 0) depth (pos 4096) figures_in.0 in
      let e = not_above (pos 0) depth (pos 4096) figures_in.0 in
      let a = not_below (pos 1) area (pos 2000000) figures_in.1.0 in
      let b = not_above (pos 1) area (pos 2000000) figures_in.1.0 in
      let depth_most : nat_abs depth ≤ 4096 = omega (arith, ints) in
      let area_least : 1 ≤ nat_abs area = omega (arith, ints) in
      let area_most : nat_abs area ≤ 2000000 = omega (arith, ints) in
      and_i _ _ (and_i _ _ (le→leb _ _ depth_most) (and_i _ _ (le→leb _ _ area_least) (le→leb _ _ area_most))) figures_in.1.1.0

  -- the casts of such figures change none of them
  fibre_cast : (number : ℕ) → SFits w64 depth → SFits w64 area → SFits w64 initial → number ≡ nat_abs material
      → ◌≡◌ {A = Fibre} (record { depth = nat_abs (to_z w64 (of_z w64 depth)); area = nat_abs (to_z w64 (of_z w64 area)); material = number; initial = to_z w32 (of_z w32 (to_z w64 (of_z w64 initial))) }) (fibre_of depth area material initial)
  fibre_cast number fits-depth fits-area fits-initial same =
      let i = not_below (neg_ℤ (pos 100000000)) initial (pos 100000000) figures_in.1.1.0 in
      let j = not_above (neg_ℤ (pos 100000000)) initial (pos 100000000) figures_in.1.1.0 in
      let fits : SFits w32 initial = omega (arith, ints) in
      rw (to_z-of_z w64 depth fits-depth, to_z-of_z w64 area fits-area, to_z-of_z w64 initial fits-initial, to_z-of_z w32 initial fits, same) refl

  module _ (before after : List Fibre) where
    pub items_put : (number : ℕ) → SFits w64 depth → SFits w64 area → SFits w64 initial → number ≡ nat_abs material
        → after ≡ before ++ record { depth = nat_abs (to_z w64 (of_z w64 depth)); area = nat_abs (to_z w64 (of_z w64 area)); material = number; initial = to_z w32 (of_z w32 (to_z w64 (of_z w64 initial))) } ∷ []
        → after ≡ before ++ fibre_of depth area material initial ∷ []
    items_put number fits-depth fits-area fits-initial same is = is ∙ ap (λ (f : Fibre). before ++ f ∷ []) (fibre_cast number fits-depth fits-area fits-initial same)

    pub ranged_put : after ≡ before ++ fibre_of depth area material initial ∷ [] → T (all_ranged before) → T (all_ranged after)
    ranged_put is h = rw (is, list_all-append ranged before (fibre_of depth area material initial ∷ [])) (and_i _ _ h (and_i _ _ figures_ranged tt))
