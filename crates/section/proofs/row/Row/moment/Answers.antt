use Rattle.std.proofs.Common.{ℤ, pos, ◌-ℤ◌, ◌*ℤ◌, ap, ◌∙◌}
use borrow.Author.Rules.{sfits_of}
use Rattle.section.proofs.Bounds.{lever_small}
use Rattle.section.proofs.Summing.{lever_taken, lever_fits, item_ranged, more_fits, more_is, total_is, sum_within, share_fits, rest_fits, rest_is}
use Rattle.section.proofs.row.Row.moment.Goals as goal

pub pull-requires : goal.pull-requires
pull-requires g c = item_ranged c.args.self.now _ c.deref-fibre-items.ensures.value _ _ c.loop-fibre-test.true

pub overflow_mul-sum : goal.overflow_mul-sum
overflow_mul-sum g c =
    let s = c.args.self.now in
    let inside = item_ranged s _ c.deref-fibre-items.ensures.value _ _ c.loop-fibre-test.true in
    lever_fits (g.K.Kit.laws s.kit) (g.K.Kit.lawful s.kit) c.args.plane _ inside _ (sfits_of c.pull.type_inv) c.pull.ensures

pub overflow_add-sum : goal.overflow_add-sum
overflow_add-sum g c =
    let s = c.args.self.now in
    let laws = g.K.Kit.laws s.kit in
    let lawful = g.K.Kit.lawful s.kit in
    let inside = item_ranged s _ c.deref-fibre-items.ensures.value _ _ c.loop-fibre-test.true in
    more_fits s _ c.deref-fibre-items.ensures.value _ (lever_small laws lawful c.args.plane) _ _ c.loop-fibre.invariant _ c.loop-fibre-test.true
    _ (lever_fits laws lawful c.args.plane _ inside _ (sfits_of c.pull.type_inv) c.pull.ensures)
    (lever_taken laws lawful c.args.plane _ inside _ (sfits_of c.pull.type_inv) c.pull.ensures)

pub loop-fibre-preserved : goal.loop-fibre-preserved
loop-fibre-preserved g c =
    let s = c.args.self.now in
    let laws = g.K.Kit.laws s.kit in
    let lawful = g.K.Kit.lawful s.kit in
    let inside = item_ranged s _ c.deref-fibre-items.ensures.value _ _ c.loop-fibre-test.true in
    more_is s _ c.deref-fibre-items.ensures.value _ (lever_small laws lawful c.args.plane) _ _ c.loop-fibre.invariant _ c.loop-fibre-test.true
    _ (lever_fits laws lawful c.args.plane _ inside _ (sfits_of c.pull.type_inv) c.pull.ensures)
    (lever_taken laws lawful c.args.plane _ inside _ (sfits_of c.pull.type_inv) c.pull.ensures)

pub overflow_mul-result : goal.overflow_mul-result
overflow_mul-result g c = share_fits c.args.load.now

pub overflow_sub-result : goal.overflow_sub-result
overflow_sub-result g c =
    let s = c.args.self.now in
    rest_fits c.args.load.now _ (sum_within s _ c.deref-fibre-items.ensures.value _ (lever_small (g.K.Kit.laws s.kit) (g.K.Kit.lawful s.kit) c.args.plane)
    _ _ c.loop-fibre.invariant c.loop-fibre-test.false)

pub returns : goal.returns
returns g c =
    let s = c.args.self.now in
    let load = c.args.load.now in
    let small = lever_small (g.K.Kit.laws s.kit) (g.K.Kit.lawful s.kit) c.args.plane in
    rest_is load _ (sum_within s _ c.deref-fibre-items.ensures.value _ small _ _ c.loop-fibre.invariant c.loop-fibre-test.false)
    ∙ ap (λ (z : ℤ). z -ℤ load.force *ℤ pos load.depth) (total_is s _ c.deref-fibre-items.ensures.value _ small _ _ c.loop-fibre.invariant c.loop-fibre-test.false)
