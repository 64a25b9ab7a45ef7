-- How a two-line law is written.
use Rattle.std.specs.Prelude.{ℕ, List, ◌++◌, codes, decimal}
use Rattle.laws.specs.Written.{limits_line}
use Rattle.cards.specs.declared.two_line.Plateaus.{Plateaus}
use Rattle.cards.specs.declared.two_line.TwoLine.{TwoLine}

abbrev pub plateaus_line : Plateaus → List ℕ
plateaus_line plateaus = decimal plateaus.compression ++ (codes " " ++ decimal plateaus.tension)

-- the modulus, the plateaus and the limits, one space between
abbrev pub two_line_line : TwoLine → List ℕ
two_line_line law = decimal law.modulus ++ (codes " " ++ (plateaus_line law.plateaus ++ (codes " " ++ limits_line law.limits)))
