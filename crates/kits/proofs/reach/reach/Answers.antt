use Rattle.std.proofs.Common.{refl, arith, w64, SFits}
use Rattle.std.proofs.lemmas.Int.{ints, to_z-of_z}
use Rattle.kits.proofs.Reaching.{limits_in, reach_answer}
use Rattle.kits.proofs.reach.reach.Goals as goal

pub ends-first-requires : goal.ends-first-requires
ends-first-requires g c =
    let k = c.args.kit.now in
    let f = c.ranges.number in
    let taken = simp to_z-of_z at c.in_ok-number.ensures in
    let l = limits_in (g.K.Kit.laws k) c.args.number _ taken c.in-Some.limits _ c.in-Some.ensures refl (g.K.Kit.lawful k) in
    record { compression = l.0; tension = l.1 }

pub returns : goal.returns
returns g c =
    let k = c.args.kit.now in
    let f = c.ranges.number in
    let t = c.ranges.stress in
    let t64 : SFits w64 c.args.stress = omega (arith, ints) in
    let taken = simp to_z-of_z at c.in_ok-number.ensures in
    let l = limits_in (g.K.Kit.laws k) c.args.number _ taken c.in-Some.limits _ c.in-Some.ensures refl (g.K.Kit.lawful k) in
    let found = simp to_z-of_z at c.least.ensures.found in
    rw c.ok_or.ensures.value (reach_answer (g.K.Kit.laws k) c.args.number _ taken c.in-Some.limits _ c.in-Some.ensures refl c.args.stress _ _ (omega (arith, ints)) (omega (arith, ints)) c.least.result found)
