-- The numbers of a two-line law, and what they mean.
use Rattle.std.specs.Prelude.{ℕ}
use Rattle.laws.specs.Meaning.{Meaning}
use Rattle.laws.specs.TwoLine.{two_line_law}
use Rattle.cards.specs.declared.two_line.TwoLine.{TwoLine}

-- modulus and plateaus in psi, limits in nano
pub record Lines : Type 0 where
  pub modulus : ℕ
  pub compression : ℕ
  pub tension : ℕ
  pub shortest : ℕ
  pub longest : ℕ

abbrev pub lines : TwoLine → Lines
lines law = record {
  modulus = law.modulus;
  compression = law.plateaus.compression;
  tension = law.plateaus.tension;
  shortest = law.limits.compression;
  longest = law.limits.tension;
}

abbrev pub meaning_of : Lines → Meaning
meaning_of l = two_line_law l.modulus l.compression l.tension l.shortest l.longest
