-- What is taken for the number of a law, and what the search for a stress answers.
use Rattle.std.specs.Prelude.{◌≡◌, ℕ, ◌⊎◌, List, [], ℤ, pos, neg_ℤ, ◌≤ℤ◌, Some, None, Result, MatchResult}
use Rattle.refusal.specs.Refusals.{Says}
use Rattle.refusal.specs.declared.Refusal.{Refusal}
use Rattle.laws.specs.Meaning.{Meaning}
use Rattle.search.specs.Points.{Least, Nowhere}
use Rattle.kits.specs.Kits.{reached, numbered}

-- ---- the number

-- it reaches a law
pub record NumberTaken (laws : List Meaning) (number : ℤ) (taken : ℕ) : Type 0 where
  pub same : pos taken ≡ number
  pub law : Meaning
  pub law_is : reached laws taken ≡ Some law

-- refused by 8: it reaches none
pub record NumberRefused (laws : List Meaning) (number : ℤ) (refusal : Refusal) : Type 0 where
  pub no_law : numbered laws number ≡ None
  pub says : Says refusal 8 []

-- ---- the stress

-- at the strain the stress is not below the given one
abbrev pub NotBelow : Meaning → ℤ → ℤ → Type 0
NotBelow law stress strain = stress ≤ℤ law.stress strain

-- the first and the last strain within the limits of a law
abbrev pub shortest : Meaning → ℤ
shortest law = neg_ℤ (pos law.compression)

abbrev pub longest : Meaning → ℤ
longest law = pos law.tension

-- the least strain within the limits of the law at which its stress is not below the given one
pub record StressReached (laws : List Meaning) (number stress strain : ℤ) : Type 0 where
  pub law : Meaning
  pub law_is : numbered laws number ≡ Some law
  pub least : Least (NotBelow law stress) (shortest law) (longest law) strain

-- refused by 16: there is no such strain
pub record StressRefused (laws : List Meaning) (number stress : ℤ) (refusal : Refusal) : Type 0 where
  pub law : Meaning
  pub law_is : numbered laws number ≡ Some law
  pub nowhere : Nowhere (NotBelow law stress) (shortest law) (longest law)
  pub says : Says refusal 16 []

abbrev pub Reaches : List Meaning → ℤ → ℤ → Result ℤ Refusal → Type 0
Reaches laws number stress answer = MatchResult answer (StressReached laws number stress) (λ refusal. NumberRefused laws number refusal ⊎ StressRefused laws number stress refusal)
