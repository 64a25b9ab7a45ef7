use Rattle.std.proofs.Common.{sym, subst, arith, w32, w64, SFits}
use borrow.Author.Rules.{sfits_of}
use Rattle.std.proofs.lemmas.Int.{ints, to_z-of_z}
use Rattle.search.proofs.Bisection.{reaches_on, between_upper, between_lower, between_one, next_fits}
use Rattle.search.proofs.bisect.Goals as goal

pub at-requires : goal.at-requires
at-requires g c =
    let l = c.ranges.low in
    let h = c.ranges.high in
    let m : SFits w32 c.halfway-middle.result = sfits_of c.halfway-middle.type_inv in
    let k = simp to_z-of_z at c.loop-bottom.invariant in
    let s = k.starts in
    let e = k.ends in
    let from = c.halfway-middle.ensures.from in
    let below = c.halfway-middle.ensures.below in
    subst (g.Q.NeverFalls.covers c.args.quantity.now) (sym (to_z-of_z w32 c.halfway-middle.result m)) (c.requires.covered c.halfway-middle.result (omega (arith, ints)) (omega (arith, ints)))

pub loop-bottom-preserved-then-at-target : goal.loop-bottom-preserved-then-at-target
loop-bottom-preserved-then-at-target g c =
    let l = c.ranges.low in
    let h = c.ranges.high in
    let t = c.ranges.target in
    let m : SFits w32 c.halfway-middle.result = sfits_of c.halfway-middle.type_inv in
    let r : SFits w64 c.at.result = sfits_of c.at.type_inv in
    let k = simp to_z-of_z at c.loop-bottom.invariant in
    let e = k.ends in
    let n = next_fits c.halfway-middle.result c.args.high m h (omega (arith, ints)) in
    let a = simp to_z-of_z at c.at.ensures in
    let u = simp to_z-of_z at c.if-at-target.true in
    let on = reaches_on c.args.target (g.Q.NeverFalls.rises c.args.quantity.now) c.requires.covered in
    simp to_z-of_z (between_upper _ c.args.low c.args.high _ _ c.halfway-middle.result k c.halfway-middle.ensures.from c.halfway-middle.ensures.below on (λ p. omega (arith, ints)))

pub returns : goal.returns
returns g c =
    let l = c.ranges.low in
    let h = c.ranges.high in
    let t = c.ranges.target in
    let k = simp to_z-of_z at c.loop-bottom.invariant in
    between_one _ c.args.low c.args.high _ _ k (omega (arith, ints))
