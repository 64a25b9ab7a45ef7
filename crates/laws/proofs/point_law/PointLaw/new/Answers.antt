use Rattle.std.proofs.Common.{◌≡◌, List, None, subst}
use Rattle.std.specs.List.{AllByRecursion}
use Rattle.laws.specs.declared.point.Point.{Point}
use Rattle.laws.specs.Points.{Sound, after}
use Rattle.laws.proofs.Points.{point_shape, all_pass_from_all}
use Rattle.laws.proofs.point_law.PointLaw.new.Goals as goal

sound : {seen points : List Point} → seen ≡ points → AllByRecursion Sound (after None seen) → AllByRecursion Sound (after None points)
sound e h = let P : List Point → Type 0 = λ ps. AllByRecursion Sound (after None ps) in subst P e h

pub invariant_of-result-clause-points_sound : goal.invariant_of-result-clause-points_sound
invariant_of-result-clause-points_sound c = all_pass_from_all _ (sound c.deref.ensures.value c.in_default.ensures)

pub returns-clause-shape : goal.returns-clause-shape
returns-clause-shape c = point_shape _ (all_pass_from_all _ (sound c.deref.ensures.value c.in_default.ensures))
