use Rattle.std.proofs.Common.{◌≡◌, take}
use Rattle.section.specs.Fibres.{force}
use Rattle.section.proofs.row.Row.force.Given as goal

abbrev pub invariant-loop-fibre : goal.invariant-loop-fibre
invariant-loop-fibre g l = l.sum ≡ force (g.K.Kit.laws l.self.kit) (take l.fibre-index l.self.fibres.items) l.plane.curvature.number l.plane.top
