use Rattle.std.proofs.Common.{sym, ap}
use lib.Ieee.{of_bits, round}
use Rattle.cards.specs.Figures.{decimal, range}
use Rattle.cards.proofs.figures.range_of.Goals as goal

pub returns-in-Modulus : goal.returns-in-Modulus
unfolding of_bits round decimal
returns-in-Modulus c = ap range (sym c.in-Modulus.is)

pub returns-in-UhpcStrength : goal.returns-in-UhpcStrength
unfolding of_bits round decimal
returns-in-UhpcStrength c = ap range (sym c.in-UhpcStrength.is)

pub returns-in-Cracking : goal.returns-in-Cracking
unfolding of_bits round decimal
returns-in-Cracking c = ap range (sym c.in-Cracking.is)

pub returns-in-Strain : goal.returns-in-Strain
unfolding of_bits round decimal
returns-in-Strain c = ap range (sym c.in-Strain.is)

pub returns-in-Localization : goal.returns-in-Localization
unfolding of_bits round decimal
returns-in-Localization c = ap range (sym c.in-Localization.is)

pub returns-in-DeckStrength : goal.returns-in-DeckStrength
unfolding of_bits round decimal
returns-in-DeckStrength c = ap range (sym c.in-DeckStrength.is)

pub returns-in-Yielding : goal.returns-in-Yielding
unfolding of_bits round decimal
returns-in-Yielding c = ap range (sym c.in-Yielding.is)
