use Rattle.std.proofs.Common.{◌<◌, length, arith}
use Rattle.std.proofs.lemmas.List.{take_more_set, length-set}
use Rattle.std.proofs.lemmas.Option.{MatchOption-at_some, MatchOption-at_none}
use Rattle.std.proofs.lemmas.Result.{err_from_is_err_and}
use Rattle.job.proofs.Errors.{ok_or_err}
use Rattle.job.proofs.Reading.{one_more, none_here}
use Rattle.job.proofs.numbers.numbers.Goals as goal

pub loop-place-preserved : goal.loop-place-preserved
loop-place-preserved g c =
    let room : c.loop-place.place < length c.loop-place.numbers = omega arith in
    let read = MatchOption-at_some _ _ _ c.in_ok-numbers.ensures.ok_part c.read.ensures in
    let more = one_more c.loop-place.invariant.0 _ c.in_ok-numbers.field-0 (omega arith) read.0 read.1 in
    (rw (take_more_set c.loop-place.numbers _ c.in_ok-numbers.field-0 room) more, simp length-set c.loop-place.invariant.1)

pub returns-in_err-numbers : goal.returns-in_err-numbers
returns-in_err-numbers g c =
    let unread = MatchOption-at_none _ _ c.in_err-numbers.ensures.ok_part c.read.ensures in
    let first = none_here c.loop-place.invariant.0 _ (omega arith) unread in
    let p = err_from_is_err_and c.from_residual.result c.from_residual.ensures.1 in
    let same = ok_or_err c.read.result _ _ c.in_err-numbers.ensures.value c.in_err-numbers.ensures.ok_part in
    rw (p.1, p.2, same) first
