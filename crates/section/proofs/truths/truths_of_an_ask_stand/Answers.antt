use Rattle.section.proofs.Standing.{truths_of}
use Rattle.section.proofs.truths.truths_of_an_ask_stand.Goals as goal

pub returns : goal.returns
returns c = truths_of
