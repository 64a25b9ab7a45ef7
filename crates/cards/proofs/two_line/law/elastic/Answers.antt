use Rattle.std.proofs.Common.{◌≡◌, ◌^◌, ◌<◌, pos, ◌*ℤ◌, arith, w32, w64, SFits, to_z, of_z}
use Rattle.std.proofs.lemmas.Int.{ints, to_z-of_z, to_z_pos}
use Rattle.laws.specs.TwoLine.{elastic}
use Rattle.laws.proofs.Whole.{scale_fits}
use Rattle.cards.proofs.two_line.law.elastic.Goals as goal

pub returns : goal.returns
unfolding elastic
returns c =
    let f = c.ranges.strain in
    let m = c.args.modulus in
    let z = c.args.strain in
    let e : SFits w64 z = omega (arith, ints) in
    let b : m < 2 ^ 63 = omega arith in
    let p : SFits w64 (pos m *ℤ z) = scale_fits _ _ (omega arith) f in
    let q : (to_z w64 m *ℤ to_z w64 (of_z w64 (to_z w32 (of_z w32 z)))) ≡ (pos m *ℤ z) = simp (to_z-of_z, to_z_pos) in
    omega (arith, ints)
