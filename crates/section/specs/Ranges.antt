-- Whether the figures of every fibre are in range, as a test, for a struct's ghost field; and the range of a load.
use Rattle.std.specs.Prelude.{ℕ, ◌≤◌, Bool, ◌&&◌, T, List, [], ◌∷◌, ℤ, pos, neg_ℤ, ◌≤ℤ◌, int_le, nat_le}
use Rattle.std.proofs.Common.{leb→le}
use Rattle.std.specs.Float.Ieee.Fits.{and_l, and_r}
use Rattle.std.specs.Int.Signed.{le_z_yes}
use Rattle.std.specs.List.{list_all, AllByRecursion}
use Rattle.section.specs.Fibres.{Ranged}
use Rattle.section.specs.declared.fibre.Fibre.{Fibre}

abbrev pub ranged : Fibre → Bool
ranged f = nat_le f.depth 4096 && (nat_le 1 f.area && nat_le f.area 2000000) && (int_le (neg_ℤ (pos 100000000)) f.initial && int_le f.initial (pos 100000000))

abbrev pub all_ranged : List Fibre → Bool
all_ranged fibres = list_all ranged fibres

fibre_ranged : (f : Fibre) → T (ranged f) → Ranged f
fibre_ranged f t =
    let front = and_l (nat_le f.depth 4096 && (nat_le 1 f.area && nat_le f.area 2000000)) (int_le (neg_ℤ (pos 100000000)) f.initial && int_le f.initial (pos 100000000)) t in
    let initial = and_r (nat_le f.depth 4096 && (nat_le 1 f.area && nat_le f.area 2000000)) (int_le (neg_ℤ (pos 100000000)) f.initial && int_le f.initial (pos 100000000)) t in
    let area = and_r (nat_le f.depth 4096) (nat_le 1 f.area && nat_le f.area 2000000) front in
    record {
      depth_most = leb→le _ _ (and_l (nat_le f.depth 4096) (nat_le 1 f.area && nat_le f.area 2000000) front);
      area_least = leb→le _ _ (and_l (nat_le 1 f.area) (nat_le f.area 2000000) area);
      area_most = leb→le _ _ (and_r (nat_le 1 f.area) (nat_le f.area 2000000) area);
      initial_least = le_z_yes (and_l (int_le (neg_ℤ (pos 100000000)) f.initial) (int_le f.initial (pos 100000000)) initial);
      initial_most = le_z_yes (and_r (int_le (neg_ℤ (pos 100000000)) f.initial) (int_le f.initial (pos 100000000)) initial);
    }

pub each_ranged : (fibres : List Fibre) → T (all_ranged fibres) → AllByRecursion Ranged fibres
each_ranged [] t = tt
each_ranged (f ∷ fibres) t = (fibre_ranged f (and_l (ranged f) (all_ranged fibres) t), each_ranged fibres (and_r (ranged f) (all_ranged fibres) t))

-- a load, and the depth at which it acts, are in range
pub record LoadRanged (load : ℤ) (depth : ℕ) : Type 0 where
  pub least : neg_ℤ (pos 400000000000000) ≤ℤ load
  pub most : load ≤ℤ pos 400000000000000
  pub depth_most : depth ≤ 4096
