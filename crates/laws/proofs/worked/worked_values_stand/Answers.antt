use Rattle.std.proofs.Common.{refl}
use Rattle.laws.specs.TwoLine.{elastic, two_line}
use Rattle.laws.specs.Points.{line}
use Rattle.laws.proofs.worked.worked_values_stand.Goals as goal

pub returns : goal.returns
unfolding elastic two_line line
returns c = record {
  nothing_yet = refl;
  first_psi = refl;
  toward_zero = refl;
  below_cracking = refl;
  at_cracking = refl;
  above_crushing = refl;
  at_crushing = refl;
  halfway = refl;
  slack = refl;
}
