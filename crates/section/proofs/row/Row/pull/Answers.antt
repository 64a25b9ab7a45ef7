use Rattle.std.proofs.Common.{pos, ◌*ℤ◌, unwrap_or, ap, ◌∙◌, arith, w32, w64, SFits, to_z, of_z}
use borrow.Author.Rules.{sfits_of}
use Rattle.std.proofs.lemmas.Int.{ints, to_z-of_z}
use Rattle.laws.proofs.Whole.{scale_fits}
use Rattle.kits.specs.Kits.{reached, stress_at}
use Rattle.section.specs.Fibres.{strain}
use Rattle.section.specs.ForceRises.{strain_fits}
use Rattle.section.proofs.Summing.{stress_is, product_is_whole}
use Rattle.section.proofs.row.Row.pull.Goals as goal

pub overflow_mul-result : goal.overflow_mul-result
overflow_mul-result g c =
    let f = c.args.fibre.now in
    let z = c.unwrap_or-stress.result in
    let s : SFits w32 z = sfits_of c.unwrap_or-stress.type_inv in
    rw (product_is_whole f.area z c.requires.area_most s) (scale_fits f.area z (omega arith) s)

pub returns : goal.returns
returns g c =
    let f = c.args.fibre.now in
    let p = c.args.plane in
    let z = c.unwrap_or-stress.result in
    let s : SFits w32 z = sfits_of c.unwrap_or-stress.type_inv in
    let narrow = strain_fits p.curvature.number p.curvature.gentle p.top p.within f c.requires in
    let wide : SFits w64 (strain p.curvature.number p.top f) = omega (arith, ints) in
    let top = c.strain.ensures in
    let k = c.stress.ensures ∙ ap (λ x. stress_at (g.K.Kit.laws c.args.self.now.kit) f.material x) (omega (arith, ints)) in
    let e = c.unwrap_or-stress.ensures ∙ ap (λ o. unwrap_or o (pos 0)) k ∙ stress_is (reached (g.K.Kit.laws c.args.self.now.kit) f.material) _ in
    ap (λ y. to_z w64 (of_z w64 y)) (product_is_whole f.area z c.requires.area_most s) ∙ to_z-of_z w64 _ (scale_fits f.area z (omega arith) s) ∙ ap (λ y. pos f.area *ℤ y) e
