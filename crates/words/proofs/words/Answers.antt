use Rattle.std.proofs.Common.{◌<◌, length, vec_items, arith, true-eqb, false-eqb}
use Rattle.words.proofs.Lists.{start, pushed, shorter, done, only_words}
use Rattle.words.proofs.words.Goals as goal

pub loop-rest-init : goal.loop-rest-init
loop-rest-init c = start _ _ _ _ c.new-words.ensures.items c.split_gap.ensures

pub loop-rest-smaller : goal.loop-rest-smaller
loop-rest-smaller c =
    let some : 0 < length c.loop-rest.rest.now = omega (arith, false-eqb _ 0 c.loop-rest-test.ensures) in
    shorter _ _ _ _ _ c.loop-rest.invariant.begins some c.split_word.ensures c.split_gap-in-loop-rest.ensures

pub loop-rest-preserved : goal.loop-rest-preserved
loop-rest-preserved c =
    let some : 0 < length c.loop-rest.rest.now = omega (arith, false-eqb _ 0 c.loop-rest-test.ensures) in
    let found = vec_items c.loop-rest.words in
    let all = vec_items c.push.new.self in
    pushed _ _ _ _ _ found all c.split_word.result.0 c.in_ok-push.ensures.items c.loop-rest.invariant some c.split_word.ensures c.split_gap-in-loop-rest.ensures

pub returns : goal.returns
returns c =
    let all = done _ _ _ c.loop-rest.invariant (true-eqb _ 0 c.loop-rest-test.ensures) in
    record { items = all; only = λ ws h. only_words _ ws _ h all }
