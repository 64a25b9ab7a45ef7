use Rattle.std.proofs.Common.{length, vec_items}
use Rattle.words.specs.Words.{texts}
use Rattle.words.proofs.Lists.{Sofar}
use Rattle.words.proofs.words.Given as goal

abbrev pub invariant-loop-rest : goal.invariant-loop-rest
invariant-loop-rest l = Sofar l.line (texts (vec_items l.words)) l.rest

abbrev pub decreases-loop-rest : goal.decreases-loop-rest
decreases-loop-rest l = length l.rest
