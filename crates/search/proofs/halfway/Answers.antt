use Rattle.std.proofs.Common.{pos, ◌+ℤ◌, ◌-ℤ◌, arith, w32, w64, SFits}
use lib.Signed.{quot_z}
use Rattle.std.proofs.lemmas.Int.{ints, to_z-of_z}
use Rattle.search.proofs.Midpoint.{middle_in, half_fits}
use Rattle.search.proofs.halfway.Goals as goal

pub returns : goal.returns
returns c =
    let l = c.args.low in
    let h = c.args.high in
    let f = c.ranges.low in
    let g = c.ranges.high in
    let f64 : SFits w64 l = omega (arith, ints) in
    let g64 : SFits w64 h = omega (arith, ints) in
    let d : SFits w64 (h -ℤ l) = omega (arith, ints) in
    let m = middle_in l h f g c.requires in
    let q = half_fits l h f g c.requires in
    let m64 : SFits w64 (l +ℤ quot_z (h -ℤ l) (pos 2)) = omega (arith, ints, m.0, m.1) in
    let m32 : SFits w32 (l +ℤ quot_z (h -ℤ l) (pos 2)) = omega (arith, ints, m.0, m.1) in
    record { value = simp to_z-of_z; from = simp to_z-of_z m.0; below = simp to_z-of_z m.1 }
