use Rattle.std.proofs.Common.{◌≡◌, ℤ, pos, ◌-ℤ◌, neg_ℤ, ap, ◌∙◌, arith, w32, w64, SFits, to_z, of_z}
use borrow.Author.Rules.{sfits_of}
use Rattle.std.specs.Int.{int_max, int_min}
use Rattle.std.proofs.lemmas.Int.{ints, to_z-of_z, to_z_pos}
use Rattle.laws.specs.TwoLine.{elastic, two_line}
use Rattle.laws.proofs.Whole.{clamp_low, clamp_high}
use Rattle.cards.proofs.two_line.law.TwoLineLaw.stress.Goals as goal

-- what the last call answers, in the words of the definition
clamped : (c : goal.After-max) → c.max.result ≡ int_max (int_min c.elastic.result (pos c.args.self.now.plateaus.tension)) (neg_ℤ (pos c.args.self.now.plateaus.compression))
clamped c =
    let s = c.args.self.now in
    let ci = s.compression_in in
    let ti = s.tension_in in
    let t : to_z w64 s.plateaus.tension ≡ pos s.plateaus.tension = to_z_pos w64 _ (omega arith) in
    let k : to_z w64 (of_z w64 (pos 0 -ℤ to_z w64 s.plateaus.compression)) ≡ neg_ℤ (pos s.plateaus.compression) = omega (arith, ints) in
    let e : to_z w64 (of_z w64 c.elastic.result) ≡ c.elastic.result = to_z-of_z w64 _ (sfits_of c.elastic.type_inv) in
    let m : to_z w64 (of_z w64 c.min-capped.result) ≡ c.min-capped.result = to_z-of_z w64 _ (sfits_of c.min-capped.type_inv) in
    cc (c.max.ensures.value, c.min-capped.ensures.value)

fits : (c : goal.After-max) → SFits w32 c.max.result
fits c =
    let s = c.args.self.now in
    let ci = s.compression_in in
    let ti = s.tension_in in
    let v = clamped c in
    let l = clamp_low s.plateaus.compression s.plateaus.tension c.elastic.result in
    let h = clamp_high s.plateaus.compression s.plateaus.tension c.elastic.result in
    omega (arith, ints)

pub overflow_cast-result : goal.overflow_cast-result
overflow_cast-result c = let f = fits c in let e : SFits w64 c.max.result = sfits_of c.max.type_inv in simp to_z-of_z f

pub returns : goal.returns
unfolding two_line
returns c =
    let s = c.args.self.now in
    let P : ℤ → ℤ = λ e. int_max (int_min e (pos s.plateaus.tension)) (neg_ℤ (pos s.plateaus.compression)) in
    let f = c.ranges.strain in
    let g = fits c in
    let e : SFits w64 c.max.result = sfits_of c.max.type_inv in
    let z : c.elastic.result ≡ elastic s.modulus c.args.strain = simp to_z-of_z at c.elastic.ensures in
    simp to_z-of_z (clamped c ∙ ap P z)
