use Rattle.std.proofs.Common.{◌≡◌, true, false, rules}
use borrow.Author.Tests.{tests}
use Rattle.std.proofs.lemmas.Iterator.{IsFirst-from_position, YieldsList-from_slice}
use Rattle.words.specs.Words.{blank}
use Rattle.words.proofs.Runs.{Ends, run_cut}
use Rattle.words.proofs.split_word.Goals as goal

pub returns : goal.returns
returns c =
    let line = c.args.line.now in
    let ends : Ends false line c.position-end.result = IsFirst-from_position _ _ c.position-end.result (λ b. blank b ≡ true) (λ b. blank b ≡ false) c.position-end.ensures.ran (YieldsList-from_slice line cc) (λ x q k. search (rules, tests)) (λ x q k. search (rules, tests)) in
    run_cut false line _ _ c.position-end.result _ ends c.unwrap_or.ensures c.split_at.ensures.front c.split_at.ensures.back
