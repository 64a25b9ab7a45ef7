use Rattle.std.proofs.Common.{◌≡◌, List, vec_items, ap, ◌∙◌, arith, w32, w64, SFits}
use borrow.Author.Rules.{sfits_of}
use Rattle.std.proofs.lemmas.Int.{ints, to_z-of_z}
use Rattle.laws.specs.declared.point.Point.{Point}
use Rattle.laws.specs.Points.{point_stress}
use Rattle.laws.specs.PointsLawful.{stress_low, stress_high}
use Rattle.laws.proofs.point_law.law.PointLawLaw.stress.Goals as goal

answer : (c : goal.After-stress_at) → c.stress_at.result ≡ point_stress (vec_items c.args.self.now.points) c.args.strain
answer c =
    let f = c.ranges.strain in
    let g : SFits w64 c.args.strain = omega (arith, ints) in
    let e = simp to_z-of_z at c.stress_at.ensures in
    e ∙ ap (λ (ps : List Point). point_stress ps c.args.strain) c.deref.ensures.value

fits : (c : goal.After-stress_at) → SFits w32 c.stress_at.result
fits c =
    let s = c.args.self.now in
    let e = answer c in
    let l = stress_low (vec_items s.points) s.points_sound c.args.strain in
    let h = stress_high (vec_items s.points) s.points_sound c.args.strain in
    omega (arith, ints)

pub overflow_cast-result : goal.overflow_cast-result
overflow_cast-result c = let f = fits c in let g : SFits w64 c.stress_at.result = sfits_of c.stress_at.type_inv in simp to_z-of_z f

pub returns : goal.returns
returns c = let f = fits c in let g : SFits w64 c.stress_at.result = sfits_of c.stress_at.type_inv in simp to_z-of_z (answer c)
