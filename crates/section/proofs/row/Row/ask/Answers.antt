use Rattle.std.proofs.Common.{arith, rules}
use borrow.Author.Rules.{sfits_of}
use Rattle.std.proofs.lemmas.Int.{ints}
use Rattle.section.proofs.Asking.{truths, covered, passed, crossed, all_above, all_below, between}
use Rattle.section.proofs.row.Row.ask.Goals as goal

pub returns-then-high-low-clause-asked : goal.returns-then-high-low-clause-asked
returns-then-high-low-clause-asked g c =
    let s = c.args.self.now in
    crossed (g.K.Kit.lawful s.kit) s c.args.load.now c.args.curvature.gentle (simp c.in_ok-range.ensures.ok_part at c.range.ensures) (omega (arith, ints))

pub returns-then-high-low-clause-truths : goal.returns-then-high-low-clause-truths
returns-then-high-low-clause-truths g c =
    let s = c.args.self.now in truths (g.K.Kit.lawful s.kit) s c.args.load.now

pub greatest-requires : goal.greatest-requires
greatest-requires g c =
    let s = c.args.self.now in
    record { covered = covered (g.K.Kit.lawful s.kit) s c.args.load.now c.args.curvature.gentle (simp c.in_ok-range.ensures.ok_part at c.range.ensures) }

pub returns-in_err-last-clause-asked : goal.returns-in_err-last-clause-asked
returns-in_err-last-clause-asked g c =
    let s = c.args.self.now in
    let barred = all_above (g.K.Kit.lawful s.kit) s c.args.load.now c.args.curvature.gentle (simp c.in_ok-range.ensures.ok_part at c.range.ensures) (omega (arith, ints)) (simp c.in_err-last.ensures.ok_part at c.greatest.ensures.found) in
    let none = c.in_err-last.ensures.ok_part in
    let same = simp none at c.in_err-last.ensures.value in
    search rules

pub returns-in_err-last-clause-truths : goal.returns-in_err-last-clause-truths
returns-in_err-last-clause-truths g c =
    let s = c.args.self.now in truths (g.K.Kit.lawful s.kit) s c.args.load.now

pub least-requires : goal.least-requires
least-requires g c =
    let s = c.args.self.now in
    record { covered = covered (g.K.Kit.lawful s.kit) s c.args.load.now c.args.curvature.gentle (simp c.in_ok-range.ensures.ok_part at c.range.ensures) }

pub returns-in_err-first-clause-asked : goal.returns-in_err-first-clause-asked
returns-in_err-first-clause-asked g c =
    let s = c.args.self.now in
    let barred = all_below (g.K.Kit.lawful s.kit) s c.args.load.now c.args.curvature.gentle (simp c.in_ok-range.ensures.ok_part at c.range.ensures) (omega (arith, ints)) (simp c.in_err-first.ensures.ok_part at c.least.ensures.found) in
    let none = c.in_err-first.ensures.ok_part in
    let same = simp none at c.in_err-first.ensures.value in
    search rules

pub returns-in_err-first-clause-truths : goal.returns-in_err-first-clause-truths
returns-in_err-first-clause-truths g c =
    let s = c.args.self.now in truths (g.K.Kit.lawful s.kit) s c.args.load.now

pub invariant_of-moment : goal.invariant_of-moment
invariant_of-moment g c =
    let s = c.args.self.now in
    let found = (simp c.in_ok-first.ensures.ok_part at c.least.ensures.found) in
    record { within = passed (g.K.Kit.lawful s.kit) s c.args.load.now c.args.curvature.gentle (simp c.in_ok-range.ensures.ok_part at c.range.ensures) _ found.from found.to }

pub invariant_of-moment-2 : goal.invariant_of-moment-2
invariant_of-moment-2 g c =
    let s = c.args.self.now in
    let found = (simp c.in_ok-last.ensures.ok_part at c.greatest.ensures.found) in
    record { within = passed (g.K.Kit.lawful s.kit) s c.args.load.now c.args.curvature.gentle (simp c.in_ok-range.ensures.ok_part at c.range.ensures) _ found.from found.to }

pub returns-clause-asked : goal.returns-clause-asked
returns-clause-asked g c =
    let s = c.args.self.now in
    between (g.K.Kit.lawful s.kit) s c.args.load.now c.args.curvature.gentle (simp c.in_ok-range.ensures.ok_part at c.range.ensures)
    _ _ _ _ (sfits_of c.moment.type_inv) (sfits_of c.moment-2.type_inv) (simp c.in_ok-first.ensures.ok_part at c.least.ensures.found) (simp c.in_ok-last.ensures.ok_part at c.greatest.ensures.found) c.moment.ensures c.moment-2.ensures

pub returns-clause-truths : goal.returns-clause-truths
returns-clause-truths g c =
    let s = c.args.self.now in truths (g.K.Kit.lawful s.kit) s c.args.load.now
