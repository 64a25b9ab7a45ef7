use Rattle.std.proofs.Common.{vec_items}
use Rattle.section.proofs.Ranges.{ranged_taken}
use Rattle.section.proofs.section.Section.take.Goals as goal

pub invariant_of-self-clause-ranged : goal.invariant_of-self-clause-ranged
invariant_of-self-clause-ranged g c =
    let row = c.args.self.now.row in ranged_taken (vec_items row.fibres) (vec_items c.remove.new.self) _ c.remove.ensures.items row.ranged
