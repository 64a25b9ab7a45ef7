-- What a check and a reduction make of a card, and what they refuse.
use Rattle.std.specs.Prelude.{◌≡◌, ℕ, ◌*◌, ◌/◌, T, List, [], ◌∷◌, map, ℤ, pos, ◌≤ℤ◌, unsigned_abs, Float}
use Rattle.std.specs.List.{AllByRecursion}
use Rattle.refusal.specs.First.{FirstOut}
use Rattle.refusal.specs.Refusals.{Says}
use Rattle.refusal.specs.declared.Refusal.{Refusal}
use Rattle.cards.specs.declared.figures.Figure.{Figure}
use Rattle.cards.specs.declared.written.Figures.{Figures}
use Rattle.cards.specs.declared.written.Figures.TheVariants.{Uhpc, Deck, Steel}
use Rattle.cards.specs.declared.two_line.TwoLine.{TwoLine}
use Rattle.cards.specs.Figures.{within, whole, InRange}
use Rattle.cards.specs.Lines.{Lines, lines}

-- ---- the check

-- a figure is a number within its range
abbrev pub Within : Figure × Float → Type 0
Within f = T (within f.0 f.1)

abbrev pub rounded : Figure × Float → Figure × ℕ
rounded f = (f.0, whole f.0 f.1)

-- a figure within its range became its whole number, which lies within it too
pub record Rounded (written : Figure × Float) (checked : Figure × ℕ) : Type 0 where
  pub within : Within written
  pub value : checked ≡ rounded written
  pub in_range : InRange checked

-- refused by 1 with its place, as it is not within its range
pub record FigureOut (place : ℕ) (written : Figure × Float) (refusal : Refusal) : Type 0 where
  pub out : Within written → ⊥
  pub says : Says refusal 1 (pos place ∷ [])

-- every figure is within its range, and became its whole number
pub record Checked (written : List (Figure × Float)) (checked : List (Figure × ℕ)) : Type 0 where
  pub within : AllByRecursion Within written
  pub value : checked ≡ map rounded written

-- refused by 1 with the place of the first figure that is not within its range
pub record FigureRefused (written : List (Figure × Float)) (refusal : Refusal) : Type 0 where
  pub place : ℕ
  pub first : FirstOut Within written place
  pub says : Says refusal 1 (pos place ∷ [])

-- ---- the reduction

-- a factor is 1 to 850 thousandths
abbrev pub Factor : ℤ → Type 0
Factor a = (pos 1 ≤ℤ a) × (a ≤ℤ pos 850)

-- so many thousandths of a number, the fraction dropped
abbrev pub thousandths : ℕ → ℕ → ℕ
thousandths factor n = factor * n / 1000

-- what alpha and gamma leave of the figures; 100,000,000 nano stands for no limit
abbrev pub reduction : ℕ → ℕ → Figures ℕ → Lines
reduction alpha gamma (Uhpc w) = record {
  modulus = w.modulus;
  compression = thousandths alpha w.strength;
  tension = thousandths gamma w.cracking;
  shortest = w.ultimate;
  longest = thousandths gamma w.localization;
}
reduction alpha gamma (Deck w) = record {
  modulus = w.modulus;
  compression = thousandths alpha w.strength;
  tension = 0;
  shortest = w.ultimate;
  longest = 100000000;
}
reduction alpha gamma (Steel w) = record {
  modulus = w.modulus;
  compression = w.yielding;
  tension = w.yielding;
  shortest = w.rupture;
  longest = w.rupture;
}

-- both factors are in range, and the law has the numbers that they leave
pub record Reduced (alpha gamma : ℤ) (figures : Figures ℕ) (law : TwoLine) : Type 0 where
  pub alpha_in : Factor alpha
  pub gamma_in : Factor gamma
  pub value : lines law ≡ reduction (unsigned_abs alpha) (unsigned_abs gamma) figures

-- refused by 2 with its place, as it is no factor
pub record FactorOut (place : ℕ) (written : ℤ) (refusal : Refusal) : Type 0 where
  pub out : Factor written → ⊥
  pub says : Says refusal 2 (pos place ∷ [])

-- refused by 2 with the place of the first factor that is out of range
pub record FactorRefused (alpha gamma : ℤ) (refusal : Refusal) : Type 0 where
  pub place : ℕ
  pub first : FirstOut Factor (alpha ∷ gamma ∷ []) place
  pub says : Says refusal 2 (pos place ∷ [])
