-- The figures of a card: the range of each, and the whole number that it becomes.
use Rattle.std.specs.Prelude.{ℕ, ◌≤◌, Bool, false, ◌&&◌, Float}
use Rattle.std.specs.Coded.{×_prop, le_prop}
use Rattle.std.specs.Float.Ieee.{le, mul, round, to_unsigned}
use Rattle.std.specs.Float.{float_round, binary64}
use Rattle.cards.specs.declared.figures.Figure.{Figure}
use Rattle.cards.specs.declared.figures.Figure.TheVariants.{Modulus, UhpcStrength, Cracking, Strain, Localization, DeckStrength, Yielding}
use Rattle.cards.specs.declared.figures.Range.{Range}

-- the float nearest to n / d
unfoldable pub decimal : ℕ → ℕ → Float
decimal n d = round binary64 false n d

-- stresses are written in ksi and become psi
abbrev pub in_ksi : Float → Float → Range
in_ksi least most = record { least = least; most = most; scale = decimal 1000 1 }

-- strains become nano
abbrev pub in_strain : Float → Float → Range
in_strain least most = record { least = least; most = most; scale = decimal 1000000000 1 }

abbrev pub range : Figure → Range
range Modulus = in_ksi (decimal 100 1) (decimal 40000 1)
range UhpcStrength = in_ksi (decimal 35 2) (decimal 40 1)
range Cracking = in_ksi (decimal 3 4) (decimal 5 1)
range Strain = in_strain (decimal 1 1000) (decimal 1 10)
range Localization = in_strain (decimal 25 10000) (decimal 1 10)
range DeckStrength = in_ksi (decimal 2 1) (decimal 20 1)
range Yielding = in_ksi (decimal 1 1) (decimal 300 1)

-- both ends count, and no NaN is within
abbrev pub within : Figure → Float → Bool
within figure written = le (range figure).least written && le written (range figure).most

-- one product in floats, rounded to the nearest whole number, halves away from zero
unfoldable pub whole : Figure → Float → ℕ
whole figure written = to_unsigned 32 (float_round binary64 (mul binary64 written (range figure).scale))

-- the ranges in whole psi and nano
abbrev pub Bounded : Figure → ℕ → Type 0
Bounded Modulus n = (100000 ≤ n) × (n ≤ 40000000)
Bounded UhpcStrength n = (17500 ≤ n) × (n ≤ 40000)
Bounded Cracking n = (750 ≤ n) × (n ≤ 5000)
Bounded Strain n = (1000000 ≤ n) × (n ≤ 100000000)
Bounded Localization n = (2500000 ≤ n) × (n ≤ 100000000)
Bounded DeckStrength n = (2000 ≤ n) × (n ≤ 20000)
Bounded Yielding n = (1000 ≤ n) × (n ≤ 300000)

-- a figure in whole numbers, within its range
abbrev pub InRange : Figure × ℕ → Type 0
InRange f = Bounded f.0 f.1

Bounded-prop : (figure : Figure) (n : ℕ) → IsProp (Bounded figure n)
Bounded-prop Modulus n = ×_prop le_prop le_prop
Bounded-prop UhpcStrength n = ×_prop le_prop le_prop
Bounded-prop Cracking n = ×_prop le_prop le_prop
Bounded-prop Strain n = ×_prop le_prop le_prop
Bounded-prop Localization n = ×_prop le_prop le_prop
Bounded-prop DeckStrength n = ×_prop le_prop le_prop
Bounded-prop Yielding n = ×_prop le_prop le_prop

pub InRange-prop : (f : Figure × ℕ) → IsProp (InRange f)
InRange-prop f = Bounded-prop f.0 f.1
