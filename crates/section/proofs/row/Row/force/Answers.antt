use borrow.Author.Rules.{sfits_of}
use Rattle.section.proofs.Bounds.{pull_small}
use Rattle.section.proofs.Summing.{more_fits, more_is}
use Rattle.section.proofs.row.Row.force.Goals as goal

pub overflow_add-sum : goal.overflow_add-sum
overflow_add-sum g c =
    let s = c.args.self.now in
    more_fits s _ c.deref-fibre-items.ensures.value _ (pull_small (g.K.Kit.laws s.kit) (g.K.Kit.lawful s.kit) c.args.plane)
    _ _ c.loop-fibre.invariant _ c.loop-fibre-test.true _ (sfits_of c.pull-sum.type_inv) c.pull-sum.ensures

pub loop-fibre-preserved : goal.loop-fibre-preserved
loop-fibre-preserved g c =
    let s = c.args.self.now in
    more_is s _ c.deref-fibre-items.ensures.value _ (pull_small (g.K.Kit.laws s.kit) (g.K.Kit.lawful s.kit) c.args.plane)
    _ _ c.loop-fibre.invariant _ c.loop-fibre-test.true _ (sfits_of c.pull-sum.type_inv) c.pull-sum.ensures
