use Rattle.std.proofs.Common.{◌≡◌, ℕ, ◌*◌, ◌≤◌, [], ◌∷◌, ℤ, pos, ◌+ℤ◌, ◌-ℤ◌, neg_ℤ, ◌≤ℤ◌, ◌<ℤ◌, refl, arith, lit≤}
use lib.Signed.{le_z_yes, lt_z_yes}
use Rattle.std.specs.List.{AllByRecursion}
use Rattle.std.proofs.lemmas.Int.{ints}
use Rattle.laws.specs.Meaning.{Lawful}
use Rattle.laws.specs.TwoLine.{elastic, two_line}
use Rattle.laws.proofs.TwoLine.{two_line_lawful}
use Rattle.section.specs.Fibres.{force, moment, Ranged, Admitted}
use Rattle.section.specs.Worked.{material, layer, layers, Answers}
use Rattle.section.proofs.Neighbours.{first_by_neighbour, last_by_neighbour}
use Rattle.section.proofs.worked.worked_sections_stand.Goals as goal

lawful : AllByRecursion Lawful (material ∷ [])
lawful = (two_line_lawful 1000000 1000 1000 2000000 2000000 (lit≤ tt) (lit≤ tt) (lit≤ tt, lit≤ tt) (lit≤ tt, lit≤ tt), tt)

layer_ranged : (depth : ℕ) → depth ≤ 4096 → Ranged (layer depth)
layer_ranged depth h = record { depth_most = h; area_least = lit≤ tt; area_most = lit≤ tt; initial_least = le_z_yes tt; initial_most = le_z_yes tt }

ranged : AllByRecursion Ranged layers
ranged = (layer_ranged 0 (lit≤ tt), (layer_ranged 100 (lit≤ tt), tt))

admitted : (curvature : ℕ) (top : ℤ) → neg_ℤ (pos 2000000) ≤ℤ top → (top +ℤ pos (curvature * 100)) ≤ℤ pos 2000000 → Admitted (material ∷ []) layers curvature top
admitted curvature top l h =
    ((omega (arith, ints), omega (arith, ints)), ((omega (arith, ints), omega (arith, ints)), ((omega (arith, ints), omega (arith, ints)), tt)))

module _ (load : ℤ) (curvature : ℕ) (first last m n : ℤ) where
  answers : curvature ≤ 65535
      → neg_ℤ (pos 2000000) ≤ℤ first → (first +ℤ pos (curvature * 100)) ≤ℤ pos 2000000
      → neg_ℤ (pos 2000000) ≤ℤ last → (last +ℤ pos (curvature * 100)) ≤ℤ pos 2000000
      → load ≤ℤ force (material ∷ []) layers curvature first → force (material ∷ []) layers curvature (first -ℤ pos 1) <ℤ load
      → force (material ∷ []) layers curvature last ≤ℤ load → load <ℤ force (material ∷ []) layers curvature (last +ℤ pos 1)
      → m ≡ moment (material ∷ []) layers load 0 curvature first → n ≡ moment (material ∷ []) layers load 0 curvature last
      → Answers load curvature first last m n
  answers small fl fh ll lh enough short within past fm lm = (
    (small, λ e. cc),
    record {
      first_end = first_by_neighbour (material ∷ []) lawful layers ranged load curvature small first (first -ℤ pos 1)
          (admitted curvature first fl fh) enough (omega (arith, ints), omega (arith, ints)) (omega (arith, ints)) short;
      last_end = last_by_neighbour (material ∷ []) lawful layers ranged load curvature small last (last +ℤ pos 1)
          (admitted curvature last ll lh) within (omega (arith, ints), omega (arith, ints)) (omega (arith, ints)) past;
      first_moment_is = fm;
      last_moment_is = lm;
    },
  )

pub returns : goal.returns
unfolding elastic two_line
returns c = record {
  alone = answers _ _ _ _ _ _ (lit≤ tt) (le_z_yes tt) (le_z_yes tt) (le_z_yes tt) (le_z_yes tt) (le_z_yes tt) (lt_z_yes tt) (le_z_yes tt) (lt_z_yes tt) refl refl;
  apart = answers _ _ _ _ _ _ (lit≤ tt) (le_z_yes tt) (le_z_yes tt) (le_z_yes tt) (le_z_yes tt) (le_z_yes tt) (lt_z_yes tt) (le_z_yes tt) (lt_z_yes tt) refl refl;
  bent = answers _ _ _ _ _ _ (lit≤ tt) (le_z_yes tt) (le_z_yes tt) (le_z_yes tt) (le_z_yes tt) (le_z_yes tt) (lt_z_yes tt) (le_z_yes tt) (lt_z_yes tt) refl refl;
  straight = answers _ _ _ _ _ _ (lit≤ tt) (le_z_yes tt) (le_z_yes tt) (le_z_yes tt) (le_z_yes tt) (le_z_yes tt) (lt_z_yes tt) (le_z_yes tt) (lt_z_yes tt) refl refl;
}
