use Rattle.std.proofs.Common.{arith}
use Rattle.std.proofs.lemmas.Int.{ints}
use Rattle.section.specs.ForceRises.{turned_most}
use Rattle.section.proofs.row.Row.fibre_range.Goals as goal

pub overflow_cast-result-2 : goal.overflow_cast-result-2
overflow_cast-result-2 g c = let m = turned_most c.args.curvature.number c.args.fibre.now c.args.curvature.gentle c.requires in omega (arith, ints)

pub returns-clause-least : goal.returns-clause-least
returns-clause-least g c = let m = turned_most c.args.curvature.number c.args.fibre.now c.args.curvature.gentle c.requires in omega (arith, ints)

pub returns-clause-greatest : goal.returns-clause-greatest
returns-clause-greatest g c = let m = turned_most c.args.curvature.number c.args.fibre.now c.args.curvature.gentle c.requires in omega (arith, ints)
