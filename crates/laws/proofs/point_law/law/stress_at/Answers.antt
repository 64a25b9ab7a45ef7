use Rattle.std.proofs.Common.{sym, ◌∙◌, w64, SFits}
use borrow.Author.Rules.{sfits_of}
use Rattle.std.proofs.lemmas.Int.{to_z-of_z}
use Rattle.laws.proofs.Walk.{here_spans, here_line, past_more}
use Rattle.laws.proofs.point_law.law.stress_at.Goals as goal

pub interpolate-requires : goal.interpolate-requires
interpolate-requires c =
    let f = c.ranges.strain in
    let known = simp to_z-of_z at c.loop-point.invariant in
    simp to_z-of_z (here_spans _ _ _ c.loop-point-test.true known f c.if-strain-point.true)

pub returns-then-strain-point : goal.returns-then-strain-point
returns-then-strain-point c =
    let f = c.ranges.strain in
    let r : SFits w64 c.interpolate.result = sfits_of c.interpolate.type_inv in
    let known = simp to_z-of_z at c.loop-point.invariant in
    let on_line = simp to_z-of_z at c.interpolate.ensures in
    simp to_z-of_z (on_line ∙ sym (here_line _ _ _ c.loop-point-test.true known f c.if-strain-point.true))

pub loop-point-preserved : goal.loop-point-preserved
loop-point-preserved c =
    let f = c.ranges.strain in
    let known = simp to_z-of_z at c.loop-point.invariant in
    simp to_z-of_z (past_more _ _ _ c.loop-point-test.true known f c.if-strain-point.false)
