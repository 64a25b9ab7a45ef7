-- Which words are numbers, and which number each is.
use Rattle.std.specs.Prelude.{◌≡◌, ℕ, true, List, [], ◌∷◌, ℤ, Ok, IsUtf8, FitsSigned, Float}
use Rattle.std.specs.Float.{binary64}
use Rattle.std.specs.Int.{w64}
use Rattle.std.specs.Float.Parse.{is_float_text, ParsesFloat}
use Rattle.std.specs.Str.Parse.{IsNumeral, without_leading_sign, signed_digits_value}

-- the word is one that f64's parse takes, `nan` and `inf` among them
pub record IsReal (word : List ℕ) : Type 0 where
  pub text : IsUtf8 word
  pub form : is_float_text word ≡ true

-- and x is what it answers
pub record Real (word : List ℕ) (x : Float) : Type 0 where
  pub text : IsUtf8 word
  pub value : ParsesFloat {E = Unit {0}} binary64 64 word (Ok x)

-- the word is digits, with a sign or with none, and the number fits 64 bits
pub record IsWhole (word : List ℕ) : Type 0 where
  pub text : IsUtf8 word
  pub digits : IsNumeral 10 (without_leading_sign word)
  pub fits : FitsSigned w64 (signed_digits_value 10 word)

pub record Whole (word : List ℕ) (n : ℤ) : Type 0 where
  pub is_whole : IsWhole word
  pub value : n ≡ signed_digits_value 10 word

-- the lists are equally long, and each two items at one place are related
abbrev pub Pairwise : {X Y : Type 0} → (X → Y → Type 0) → List X → List Y → Type 0
Pairwise R [] [] = Unit {0}
Pairwise R [] (y ∷ ys) = ⊥
Pairwise R (x ∷ xs) [] = ⊥
Pairwise R (x ∷ xs) (y ∷ ys) = R x y × Pairwise R xs ys
