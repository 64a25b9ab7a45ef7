use Rattle.std.proofs.lemmas.Option.{slice_get-get_or}
use Rattle.section.proofs.Highest.{Own, narrowed_first, narrowed_more, narrowed_all}
use Rattle.section.proofs.row.Row.range.Goals as goal
use Rattle.section.proofs.row.Row.range.Goals.{in-Some, in-None}

pub loop-position-preserved : goal.loop-position-preserved
loop-position-preserved g c =
    let laws = g.K.Kit.laws c.args.self.now.kit in
    let items = c.deref-fibre-items.result.now in
    let i = c.loop-position.position in
    let e = c.fibre_range-own.ensures in
    let own : Own laws items c.args.curvature.number i _ c.fibre_range-own.result =
    record { stands = slice_get-get_or items i _ c.loop-position-test.true; least_is = e.least; greatest_is = e.greatest; least_place = e.places.0; greatest_place = e.places.1 } in
    elim c.match-range.branch [
      | in-Some w ↦ rw w.range-is (narrowed_more laws items c.args.curvature.number i _ _ own w.in-Some.before (rw w.in-Some.is at c.loop-position.invariant) w.shared.result w.shared.ensures.least w.shared.ensures.greatest)
      | in-None w ↦ rw w.range-is (narrowed_first laws items c.args.curvature.number i _ _ own (rw w.in-None.is at c.loop-position.invariant))
    ]

pub returns : goal.returns
returns g c =
    rw (← c.deref-fibre-items.ensures.value)
    (narrowed_all (g.K.Kit.laws c.args.self.now.kit) c.deref-fibre-items.result.now c.args.curvature.number c.loop-position.position c.loop-position-test.false c.loop-position.range c.loop-position.invariant)
