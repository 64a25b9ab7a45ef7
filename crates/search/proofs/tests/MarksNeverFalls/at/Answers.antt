use Rattle.std.proofs.Common.{◌≤◌, arith, rules, length}
use borrow.Author.Tests.{tests}
use lib.Signed.{le_z}
use Rattle.std.proofs.lemmas.Int.{ints, to_z-of_z}
use Rattle.std.proofs.lemmas.Iterator.{YieldsList-from_slice}
use Rattle.std.proofs.lemmas.Iterator.Consumers.{YieldsList-from_filter, count_from_yields_List}
use Rattle.std.proofs.lemmas.List.Sums.{length-filter}
use Rattle.search.proofs.tests.MarksNeverFalls.at.Goals as goal

pub returns : goal.returns
returns c =
    let marks = c.args.self.now.marks.now in
    let p = c.ranges.point in
    let few = c.args.self.now.few in
    let n = count_from_yields_List c.filter.result c.count.result c.count.ensures.ran (YieldsList-from_filter _ (λ mark. le_z mark c.args.point) (YieldsList-from_slice marks (cc)) c.filter.ensures.closure (λ x r q k. search (rules, tests))) in
    let e = length-filter (λ mark. le_z mark c.args.point) marks in omega (arith, ints)
