use Rattle.std.proofs.Common.{◌≤ℤ◌, Some, None, arith, w32, w64, SFits}
use borrow.Author.Rules.{sfits_of}
use Rattle.std.proofs.lemmas.Int.{ints, to_z-of_z}
use Rattle.search.specs.Points.{Nowhere}
use Rattle.search.proofs.Points.{least_only}
use Rattle.search.proofs.Bisection.{reaches_on, nowhere_empty, nowhere_not_at_end}
use Rattle.search.proofs.least.Goals as goal
use Rattle.search.proofs.least.Goals.{then-low-high-via-then-low-high, then-low-high-via-else-low-high+then-at-target}

pub returns-then-low-high : goal.returns-then-low-high
returns-then-low-high g c =
    let l = c.ranges.low in
    let h = c.ranges.high in
    let t = c.ranges.target in
    let q = c.args.quantity.now in
    let v = g.Q.NeverFalls.value q in
    let on = reaches_on c.args.target (g.Q.NeverFalls.rises q) c.requires.covered in
    let f : Nowhere (λ x. c.args.target ≤ℤ v x) c.args.low c.args.high =
    elim c.then-low-high.branch [
      | then-low-high-via-then-low-high w ↦ nowhere_empty _ c.args.low c.args.high (omega (arith, ints, w.if-low-high.true))
      | then-low-high-via-else-low-high+then-at-target w ↦
          let r : SFits w64 w.at.result = sfits_of w.at.type_inv in
          let e = simp to_z-of_z at w.at.ensures in
          let u = simp to_z-of_z at w.if-at-target.true in
          nowhere_not_at_end _ c.args.low c.args.high on (λ p. omega (arith, ints))
    ] in
    record { found = f; only = least_only _ c.args.low c.args.high None f }

pub returns : goal.returns
returns g c =
    let l = c.ranges.low in
    let h = c.ranges.high in
    let t = c.ranges.target in
    let r : SFits w32 c.bisect.result = sfits_of c.bisect.type_inv in
    let f = simp to_z-of_z at c.bisect.ensures in
    simp to_z-of_z record { found = f; only = least_only _ c.args.low c.args.high (Some _) f }
