use Rattle.std.proofs.Common.{◌≡◌, length, take}
use Rattle.job.proofs.Reading.{ReadSofar}
use Rattle.job.proofs.numbers.numbers.Given as goal

abbrev pub invariant-loop-place : goal.invariant-loop-place
invariant-loop-place g l =
    ReadSofar g.T.Number.form g.T.Number.value l.words l.place (take l.place l.numbers) × (length l.numbers ≡ g.row.N)
