use Rattle.std.proofs.Common.{drop, None}
use Rattle.laws.specs.Points.{Sound, after}
use Rattle.laws.proofs.Firsts.{Passed}
use Rattle.laws.proofs.point_law.check.first_unsound.Given as goal

abbrev pub invariant-loop-place : goal.invariant-loop-place
invariant-loop-place l = Passed Sound (after None l.points) (after l.before (drop l.place l.points)) l.place
