use Rattle.std.proofs.Common.{◌≡◌, ◌<◌, length, rules}
use lib.ListN.{length-map}
use Rattle.words.specs.Words.{texts}
use Rattle.refusal.proofs.First.{first_out_within}
use Rattle.job.specs.Numbers.{IsWhole}
use Rattle.job.proofs.read.arguments.Goals as goal

pub overflow_add-result : goal.overflow_add-result
overflow_add-result g c =
    let within : c.in-Err.place < length (texts c.split_at.result.1.now) = first_out_within IsWhole _ _ c.in-Err.ensures in
    let long : length (texts c.split_at.result.1.now) ≡ length c.split_at.result.1.now = length-map _ _ in
    search rules
