-- A figure within its range becomes a whole number between what the ends of the range become.
use Rattle.std.proofs.Common.{◌≡◌, ℕ, ◌≤◌, T, pos, sym, ap, ◌∙◌, arith}
use lib.Ieee.{Float, binary64, le, mul, of_int, in_unsigned, round, to_unsigned}
use lib.Ieee.Fits.{and_l, and_r}
use lib.Ieee.Positive.{positive, between, mul_mono, le_trans_positive}
use Rattle.std.specs.Float.{float_round, round_with}
use Rattle.cards.specs.declared.figures.Figure.{Figure}
use Rattle.cards.specs.declared.figures.Figure.TheVariants.{Modulus, UhpcStrength, Cracking, Strain, Localization, DeckStrength, Yielding}
use Rattle.cards.specs.Figures.{decimal, range, within, whole, Bounded}
use Rattle.cards.proofs.Rounds.{nearest_mono, away_is, cast, le_self, top}

-- the product that is rounded
abbrev product : Figure → Float → Float
product figure x = mul binary64 x (range figure).scale

-- what a computation shows of the ends of a range and its scale
record Scalable (figure : Figure) : Type 0 where
  least_positive : T (positive (range figure).least)
  most_positive : T (positive (range figure).most)
  scale_positive : T (positive (range figure).scale)
  low_positive : T (positive (product figure (range figure).least))
  high_positive : T (positive (product figure (range figure).most))
  high_small : T (le (product figure (range figure).most) top)

scalable : (figure : Figure) → Scalable figure
unfolding decimal round mul le
scalable Modulus = record { least_positive = tt; most_positive = tt; scale_positive = tt; low_positive = tt; high_positive = tt; high_small = tt }
scalable UhpcStrength = record { least_positive = tt; most_positive = tt; scale_positive = tt; low_positive = tt; high_positive = tt; high_small = tt }
scalable Cracking = record { least_positive = tt; most_positive = tt; scale_positive = tt; low_positive = tt; high_positive = tt; high_small = tt }
scalable Strain = record { least_positive = tt; most_positive = tt; scale_positive = tt; low_positive = tt; high_positive = tt; high_small = tt }
scalable Localization = record { least_positive = tt; most_positive = tt; scale_positive = tt; low_positive = tt; high_positive = tt; high_small = tt }
scalable DeckStrength = record { least_positive = tt; most_positive = tt; scale_positive = tt; low_positive = tt; high_positive = tt; high_small = tt }
scalable Yielding = record { least_positive = tt; most_positive = tt; scale_positive = tt; low_positive = tt; high_positive = tt; high_small = tt }

-- the ends in whole units, computed
ends_bounded : (figure : Figure) (n : ℕ) → whole figure (range figure).least ≤ n → n ≤ whole figure (range figure).most → Bounded figure n
unfolding whole decimal round mul to_unsigned round_with
ends_bounded Modulus n a b = (a, b)
ends_bounded UhpcStrength n a b = (a, b)
ends_bounded Cracking n a b = (a, b)
ends_bounded Strain n a b = (a, b)
ends_bounded Localization n a b = (a, b)
ends_bounded DeckStrength n a b = (a, b)
ends_bounded Yielding n a b = (a, b)

module _ (figure : Figure) (x : Float) (i : T (within figure x)) where
  abbrev least : Float
  least = (range figure).least

  abbrev most : Float
  most = (range figure).most

  s : Scalable figure
  s = scalable figure

  over : T (le least x)
  over = and_l (le least x) (le x most) i

  below : T (le x most)
  below = and_r (le least x) (le x most) i

  x_positive : T (positive x)
  x_positive = between least x most s.least_positive s.most_positive over below

  grows : (v w : Float) → T (positive v) → T (positive w) → T (le v w) → T (le (product figure v) (product figure w))
  grows v w V W h =
      mul_mono binary64 v w (range figure).scale (range figure).scale V W s.scale_positive s.scale_positive h
      (le_self (range figure).scale s.scale_positive)

  from_low : T (le (product figure least) (product figure x))
  from_low = grows least x s.least_positive x_positive over

  to_high : T (le (product figure x) (product figure most))
  to_high = grows x most x_positive s.most_positive below

  here_positive : T (positive (product figure x))
  here_positive = between (product figure least) (product figure x) (product figure most) s.low_positive s.high_positive from_low to_high

  here_small : T (le (product figure x) top)
  here_small = le_trans_positive (product figure x) (product figure most) top here_positive s.high_positive tt to_high s.high_small

  low_small : T (le (product figure least) top)
  low_small = le_trans_positive (product figure least) (product figure x) top s.low_positive here_positive tt from_low here_small

  pub whole_casts : T (in_unsigned binary64 32 (float_round binary64 (product figure x)))
  whole_casts = (cast (product figure x) here_positive here_small).0

  pub whole_exact : of_int binary64 (pos (whole figure x)) ≡ float_round binary64 (product figure x)
  unfolding whole
  whole_exact =
      ap (λ (n : ℕ). of_int binary64 (pos n)) (cast (product figure x) here_positive here_small).1
      ∙ sym (away_is (product figure x) here_positive)

  ordered : (whole figure least ≤ whole figure x) × (whole figure x ≤ whole figure most)
  unfolding whole
  ordered =
      let a = (cast (product figure least) s.low_positive low_small).1 in
      let b = (cast (product figure x) here_positive here_small).1 in
      let c = (cast (product figure most) s.high_positive s.high_small).1 in
      let p = nearest_mono (product figure least) (product figure x) s.low_positive here_positive from_low in
      let q = nearest_mono (product figure x) (product figure most) here_positive s.high_positive to_high in
      (omega arith, omega arith)

  pub whole_bounded : Bounded figure (whole figure x)
  whole_bounded = ends_bounded figure (whole figure x) ordered.0 ordered.1
