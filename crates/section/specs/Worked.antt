-- Asks that were worked out by hand.
use Rattle.std.specs.Prelude.{ℕ, List, [], ◌∷◌, ℤ, pos, neg_ℤ, Ok}
use Rattle.laws.specs.Meaning.{Meaning}
use Rattle.laws.specs.TwoLine.{two_line_law}
use Rattle.section.specs.Asked.{Asked}
use Rattle.section.specs.declared.fibre.Fibre.{Fibre}

-- modulus 1,000,000 psi, plateaus of 1,000 psi and limits of 2,000,000 nano on each side
abbrev pub material : Meaning
material = two_line_law 1000000 1000 1000 2000000 2000000

-- one square inch at a depth
abbrev pub layer : ℕ → Fibre
layer depth = record { depth = depth; area = 1000; material = 0; initial = pos 0 }

abbrev pub layers : List Fibre
layers = layer 0 ∷ layer 100 ∷ []

-- the two layers under a load at the top answer two ends, and the moment at each
abbrev pub Answers : ℤ → ℕ → ℤ → ℤ → ℤ → ℤ → Type 0
Answers load curvature first last first_moment last_moment =
    Asked (material ∷ []) layers load 0 curvature (Ok (record { first = first; last = last; first_moment = first_moment; last_moment = last_moment }))

pub record Worked : Type 0 where
  -- one top strain alone balances the load
  pub alone : Answers (pos 0) 10000 (neg_ℤ (pos 500000)) (neg_ℤ (pos 500000)) (pos 50000000) (pos 50000000)
  -- none balances it
  pub apart : Answers (pos 1) 10000 (neg_ℤ (pos 499999)) (neg_ℤ (pos 500000)) (pos 50000000) (pos 50000000)
  -- many balance it, in a bent section and in a straight one
  pub bent : Answers (pos 1000) 10000 (neg_ℤ (pos 499999)) (neg_ℤ (pos 499001)) (pos 50000000) (pos 50000000)
  pub straight : Answers (pos 0) 0 (neg_ℤ (pos 999)) (pos 999) (pos 0) (pos 0)
