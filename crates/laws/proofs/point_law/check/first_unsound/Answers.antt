use Rattle.std.proofs.Common.{T, List, None, sym, subst}
use Rattle.std.proofs.lemmas.List.{drop_more}
use Rattle.laws.specs.declared.point.Point.{Point}
use Rattle.laws.specs.Points.{Sound, after}
use Rattle.laws.proofs.Firsts.{Passed, passed_more, passed_out}
use Rattle.laws.proofs.point_law.check.first_unsound.Goals as goal

pub returns-then-not-is_sound : goal.returns-then-not-is_sound
returns-then-not-is_sound c =
    let points = c.args.points.now in
    let place = c.loop-place.place in
    let P : List Point → Type 0 = λ ps. Passed Sound (after None points) (after c.loop-place.before ps) place in
    let at = subst P (drop_more points place _ c.loop-place-test.true) c.loop-place.invariant in
    passed_out Sound _ _ _ place at (λ h. subst T (sym c.if-not-is_sound.ensures) h)

pub loop-place-preserved : goal.loop-place-preserved
loop-place-preserved c =
    let points = c.args.points.now in
    let place = c.loop-place.place in
    let P : List Point → Type 0 = λ ps. Passed Sound (after None points) (after c.loop-place.before ps) place in
    let at = subst P (drop_more points place _ c.loop-place-test.true) c.loop-place.invariant in
    passed_more Sound _ _ _ place at (subst T c.if-not-is_sound.ensures tt)
