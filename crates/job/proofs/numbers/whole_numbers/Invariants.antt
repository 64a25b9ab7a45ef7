use Rattle.std.proofs.Common.{vec_items}
use Rattle.job.specs.Numbers.{IsWhole, Whole}
use Rattle.job.proofs.Reading.{ReadSofar}
use Rattle.job.proofs.numbers.whole_numbers.Given as goal

abbrev pub invariant-loop-place : goal.invariant-loop-place
invariant-loop-place l = ReadSofar IsWhole Whole l.words l.place (vec_items l.numbers)
