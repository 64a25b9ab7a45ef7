use Rattle.std.proofs.Common.{◌≡◌, take}
use Rattle.section.proofs.Bounds.{lever, total}
use Rattle.section.proofs.row.Row.moment.Given as goal

abbrev pub invariant-loop-fibre : goal.invariant-loop-fibre
invariant-loop-fibre g l = l.sum ≡ total (lever (g.K.Kit.laws l.self.kit) l.plane.curvature.number l.plane.top) (take l.fibre-index l.self.fibres.items)
