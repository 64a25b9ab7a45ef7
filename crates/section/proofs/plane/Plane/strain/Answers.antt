use Rattle.std.proofs.Common.{arith}
use Rattle.std.proofs.lemmas.Int.{ints}
use Rattle.std.proofs.lemmas.Nat.{mul-le}
use Rattle.section.proofs.plane.Plane.strain.Goals as goal

pub overflow_add-result-2 : goal.overflow_add-result-2
overflow_add-result-2 c =
    let s = c.args.self.now in let m = mul-le s.curvature.number c.args.fibre.now.depth 65535 4294967295 s.curvature.gentle (omega arith) in omega (arith, ints)

pub returns : goal.returns
returns c =
    let s = c.args.self.now in let m = mul-le s.curvature.number c.args.fibre.now.depth 65535 4294967295 s.curvature.gentle (omega arith) in omega (arith, ints)
