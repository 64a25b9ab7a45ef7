use Rattle.std.proofs.Common.{pos, ap, arith, rules}
use Rattle.std.specs.List.{AllByRecursion}
use Rattle.std.proofs.lemmas.Int.{ints, to_z-of_z}
use Rattle.section.specs.Books.{book_of}
use Rattle.section.specs.Calls.{Within, fibre_figures, refilled}
use Rattle.section.proofs.Materials.{no_byte, no_law, some_law}
use Rattle.section.proofs.Ranges.{not_below, not_above, items_put, ranged_put}
use Rattle.section.proofs.section.Section.put.Goals as goal

pub returns-in_default-clause-book : goal.returns-in_default-clause-book
returns-in_default-clause-book g c =
    let f = c.ranges.material in
    let none = no_byte (g.K.Kit.laws c.args.self.now.row.kit) c.args.material (simp to_z-of_z at c.in_default.ensures) in
    search rules

pub returns-in_default-limits-clause-book : goal.returns-in_default-limits-clause-book
returns-in_default-limits-clause-book g c =
    let f = c.ranges.material in
    let byte = simp to_z-of_z at c.in-Ok.ensures in
    let none = no_law (g.K.Kit.laws c.args.self.now.row.kit) c.args.material c.in-Ok.number byte.0 byte.1 c.in_default-limits.ensures in
    search rules

pub invariant_of-self-clause-ranged : goal.invariant_of-self-clause-ranged
invariant_of-self-clause-ranged g c =
    let a = c.args in
    let figures_in : AllByRecursion Within (fibre_figures a.depth a.area a.initial) = search rules in
    let f = c.ranges.material in
    let byte = simp to_z-of_z at c.in-Ok.ensures in
    let items = items_put a.depth a.area a.material a.initial figures_in _ _ c.in-Ok.number c.ranges.depth c.ranges.area c.ranges.initial byte.1 c.push_reserved.ensures.items in
    ranged_put a.depth a.area a.material a.initial figures_in _ _ items a.self.now.row.ranged

pub returns-clause-book : goal.returns-clause-book
returns-clause-book g c =
    let a = c.args in
    let figures_in : AllByRecursion Within (fibre_figures a.depth a.area a.initial) = search rules in
    let f = c.ranges.material in
    let byte = simp to_z-of_z at c.in-Ok.ensures in
    let law = some_law (g.K.Kit.laws a.self.now.row.kit) a.material c.in-Ok.number byte.0 byte.1 c.in-Some.field-0 c.in-Some.ensures in
    let items = items_put a.depth a.area a.material a.initial figures_in _ _ c.in-Ok.number c.ranges.depth c.ranges.area c.ranges.initial byte.1 c.push_reserved.ensures.items in
    record { room = search rules; figures_in = figures_in; law = law.0; law_is = law.1; position_is = search rules; book_is = ap (refilled (book_of a.self.now)) items }

pub overflow_cast-depth : goal.overflow_cast-depth
overflow_cast-depth g c =
    let a = c.args in
    let figures_in : AllByRecursion Within (fibre_figures a.depth a.area a.initial) = search rules in
    let f = c.ranges.depth in
    let l = not_below (pos 0) a.depth (pos 4096) figures_in.0 in
    let m = not_above (pos 0) a.depth (pos 4096) figures_in.0 in
    (omega (arith, ints), omega (arith, ints))

pub overflow_cast-area : goal.overflow_cast-area
overflow_cast-area g c =
    let a = c.args in
    let figures_in : AllByRecursion Within (fibre_figures a.depth a.area a.initial) = search rules in
    let f = c.ranges.area in
    let l = not_below (pos 1) a.area (pos 2000000) figures_in.1.0 in
    let m = not_above (pos 1) a.area (pos 2000000) figures_in.1.0 in
    (omega (arith, ints), omega (arith, ints))
