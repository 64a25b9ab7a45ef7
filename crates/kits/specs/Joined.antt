-- The laws of two kits joined.
use Rattle.std.specs.Prelude.{◌≡◌, ℕ, ◌+◌, ◌<◌, min, List, ◌++◌, Some, None, Option}
use Rattle.laws.specs.Meaning.{Meaning}
use Rattle.kits.specs.declared.joined.Joined.{Joined}
use Rattle.kits.specs.declared.joined.Side.{Side}
use Rattle.kits.specs.declared.joined.Side.TheVariants.{First as OfFirst, Second as OfSecond}
use Rattle.kits.specs.Kits.{counted, reached}

-- the first's, then the second's
abbrev pub joined_laws : {First Second : Type 0} → (First → List Meaning) → (Second → List Meaning) → Joined First Second → List Meaning
joined_laws first second kit = first kit.0 ++ second kit.1

-- what joining does to the count and to the numbers
pub record JoinedLaws (first second joined : List Meaning) : Type 0 where
  pub laws_are : joined ≡ first ++ second
  -- the sum of the counts, at most 255
  pub count_is : counted joined ≡ min 255 (counted first + counted second)
  -- the first's laws keep their numbers, and the second's go on after them
  pub first_keep : (number : ℕ) → number < counted first → reached joined number ≡ reached first number
  pub second_follow : (number : ℕ) → counted first + number < 255 → reached joined (counted first + number) ≡ reached second number

-- whose law a number of the joined kit reaches, and by which number of its own
abbrev pub OnSide : List Meaning → List Meaning → ℕ → Option Side → Type 0
OnSide first second number None = reached (first ++ second) number ≡ None
OnSide first second number (Some (OfFirst own)) = reached (first ++ second) number ≡ reached first own
OnSide first second number (Some (OfSecond own)) = reached (first ++ second) number ≡ reached second own
