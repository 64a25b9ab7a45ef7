use Rattle.std.proofs.Common.{arith, w64, SFits, rules}
use Rattle.std.proofs.lemmas.Int.{to_z-of_z}
use Rattle.std.proofs.lemmas.Option.{MatchOption-at_some, MatchOption-at_none}
use Rattle.std.proofs.lemmas.Result.{err_from_is_err_and}
use Rattle.job.proofs.Errors.{ok_or_err}
use Rattle.job.proofs.Reading.{one_more, none_here, as_many}
use Rattle.job.proofs.numbers.whole_numbers.Goals as goal

pub loop-place-preserved : goal.loop-place-preserved
loop-place-preserved c =
    let read = MatchOption-at_some _ _ _ c.in_ok-number.ensures.ok_part c.read.ensures in
    let fits : SFits w64 c.in_ok-number.number = search rules in
    let more = one_more c.loop-place.invariant _ c.in_ok-number.number (omega arith) read.0 read.1 in
    let items = simp to_z-of_z at c.in_ok-push.ensures.items in
    rw items more

pub returns-in_err-number-clause-read : goal.returns-in_err-number-clause-read
returns-in_err-number-clause-read c =
    let unread = MatchOption-at_none _ _ c.in_err-number.ensures.ok_part c.read.ensures in
    let first = none_here c.loop-place.invariant _ (omega arith) unread in
    let p = err_from_is_err_and c.from_residual.result c.from_residual.ensures.1 in
    let same = ok_or_err c.read.result _ _ c.in_err-number.ensures.value c.in_err-number.ensures.ok_part in
    rw (p.1, p.2) (c.loop-place.place, same, first)

pub returns-clause-many : goal.returns-clause-many
returns-clause-many c = as_many c.loop-place.invariant (omega arith)
