use Rattle.std.proofs.Common.{pos, ◌+ℤ◌, ◌-ℤ◌, ◌≤ℤ◌, ◌<ℤ◌, Some, None, arith, w32, w64, SFits}
use borrow.Author.Rules.{sfits_of}
use Rattle.std.proofs.lemmas.Int.{ints, to_z-of_z}
use Rattle.search.specs.Points.{Greatest}
use Rattle.search.proofs.Points.{greatest_only, greatest_high, greatest_before, nowhere_before}
use Rattle.search.proofs.Bisection.{reaches_on}
use Rattle.search.proofs.greatest.Goals as goal

pub returns-then-at-target : goal.returns-then-at-target
returns-then-at-target g c =
    let l = c.ranges.low in
    let h = c.ranges.high in
    let t = c.ranges.target in
    let r : SFits w64 c.at.result = sfits_of c.at.type_inv in
    let e = simp to_z-of_z at c.at.ensures in
    let u = simp to_z-of_z at c.if-at-target.true in
    let f : Greatest (λ x. g.Q.NeverFalls.value c.args.quantity.now x ≤ℤ c.args.target) c.args.low c.args.high c.args.high
    = greatest_high _ c.args.low c.args.high (omega (arith, ints)) (omega (arith, ints)) in
    simp to_z-of_z record { found = f; only = greatest_only _ c.args.low c.args.high (Some _) f }

pub returns-then-low-past : goal.returns-then-low-past
returns-then-low-past g c =
    let l = c.ranges.low in
    let h = c.ranges.high in
    let t = c.ranges.target in
    let r : SFits w64 c.at.result = sfits_of c.at.type_inv in
    let m : SFits w32 c.bisect-past.result = sfits_of c.bisect-past.type_inv in
    let e = simp to_z-of_z at c.at.ensures in
    let u = simp to_z-of_z at c.if-at-target.false in
    let n : SFits w64 (c.args.target +ℤ pos 1) = omega (arith, ints) in
    let k = simp to_z-of_z at c.bisect-past.ensures in
    let b : c.args.low <ℤ c.bisect-past.result = omega (arith, ints) in
    let d : SFits w32 (c.bisect-past.result -ℤ pos 1) = omega (arith, ints) in
    let q = c.args.quantity.now in
    let v = g.Q.NeverFalls.value q in
    let on = reaches_on (c.args.target +ℤ pos 1) (g.Q.NeverFalls.rises q) c.requires.covered in
    let f = greatest_before v c.args.low c.args.high c.args.target c.bisect-past.result on k b in
    record { found = f _ (omega (arith, ints)); only = greatest_only _ c.args.low c.args.high (Some _) (f _ (omega (arith, ints))) }

pub returns-else-low-past : goal.returns-else-low-past
returns-else-low-past g c =
    let l = c.ranges.low in
    let h = c.ranges.high in
    let t = c.ranges.target in
    let r : SFits w64 c.at.result = sfits_of c.at.type_inv in
    let m : SFits w32 c.bisect-past.result = sfits_of c.bisect-past.type_inv in
    let e = simp to_z-of_z at c.at.ensures in
    let u = simp to_z-of_z at c.if-at-target.false in
    let n : SFits w64 (c.args.target +ℤ pos 1) = omega (arith, ints) in
    let k = simp to_z-of_z at c.bisect-past.ensures in
    let b : c.bisect-past.result ≤ℤ c.args.low = omega (arith, ints) in
    let q = c.args.quantity.now in
    let v = g.Q.NeverFalls.value q in
    let on = reaches_on (c.args.target +ℤ pos 1) (g.Q.NeverFalls.rises q) c.requires.covered in
    let f = nowhere_before v c.args.low c.args.high c.args.target c.bisect-past.result on k b in
    record { found = f; only = greatest_only _ c.args.low c.args.high None f }
