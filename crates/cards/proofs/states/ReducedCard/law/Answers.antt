use Rattle.std.proofs.Common.{refl}
use Rattle.laws.proofs.TwoLine.{two_line_shape}
use Rattle.cards.proofs.states.ReducedCard.law.Goals as goal

pub returns : goal.returns
returns c = record { value = refl; shape = two_line_shape _ _ _ }
