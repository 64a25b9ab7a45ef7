use Rattle.std.proofs.Common.{refl, arith}
use Rattle.std.proofs.lemmas.Int.{ints}
use Rattle.kits.proofs.Reaching.{number_taken, numbered_below, numbered_past}
use Rattle.kits.proofs.reach.law_number.Goals as goal
use Rattle.kits.proofs.reach.law_number.Goals.{else-number-ge0-via-then-number-ge0+else-number-count, else-number-ge0-via-else-number-ge0}

pub returns-then-number-count : goal.returns-then-number-count
returns-then-number-count g c =
    let f = c.ranges.number in
    number_taken (g.K.Kit.laws c.args.kit.now) c.args.number _ (omega (arith, ints)) (omega (arith, ints))

pub returns-else-number-ge0 : goal.returns-else-number-ge0
returns-else-number-ge0 g c =
    let f = c.ranges.number in
    let laws = g.K.Kit.laws c.args.kit.now in
    record {
      no_law = elim c.else-number-ge0.branch [
        | else-number-ge0-via-then-number-ge0+else-number-count w ↦ numbered_past laws c.args.number (omega (arith, ints, w.count.ensures, w.if-number-count.false))
        | else-number-ge0-via-else-number-ge0 w ↦ numbered_below laws c.args.number (omega (arith, ints, w.if-number-ge0.false))
      ];
      says = record { number_is = refl; places_are = refl };
    }
