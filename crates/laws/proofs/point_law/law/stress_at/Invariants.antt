use Rattle.std.proofs.Common.{◌-◌, length, take, drop}
use Rattle.laws.proofs.Walk.{Past}
use Rattle.laws.proofs.point_law.law.stress_at.Given as goal

abbrev pub invariant-loop-point : goal.invariant-loop-point
invariant-loop-point l = Past l.points l.strain l.before (drop l.point-index (take (length l.points - 1) (drop 1 l.points)))
