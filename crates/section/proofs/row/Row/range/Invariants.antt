use Rattle.std.proofs.Common.{◌≡◌, MatchOption}
use Rattle.section.proofs.Highest.{Narrowed}
use Rattle.section.proofs.row.Row.range.Given as goal

abbrev pub invariant-loop-position : goal.invariant-loop-position
invariant-loop-position g l = MatchOption l.range (l.position ≡ 0) (Narrowed (g.K.Kit.laws l.self.kit) l.fibre-items l.curvature.number l.position)
