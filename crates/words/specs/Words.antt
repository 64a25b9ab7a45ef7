-- What the words of a line are.
use Rattle.std.specs.Prelude.{◌≡◌, ℕ, ◌<◌, Bool, true, false, not, ◌||◌, List, [], ◌∷◌, ◌++◌, map, length, ◌==◌}
use Rattle.std.specs.Borrow.{Bor}
use Rattle.std.specs.List.{AllByRecursion}

-- a space, a tab or a carriage return
abbrev pub blank : ℕ → Bool
blank b = b == 32 || b == 9 || b == 13

-- each byte is a blank, where k is true, or none is, where k is false
abbrev pub Only : Bool → List ℕ → Type 0
Only k bs = AllByRecursion (λ b. blank b ≡ k) bs

-- there is no byte, or the first is a blank, where k is true, or is none, where k is false
abbrev pub Starts : Bool → List ℕ → Type 0
Starts k [] = Unit {0}
Starts k (b ∷ bs) = blank b ≡ k

-- the longest run of blanks at the front, or of bytes that are none, and what follows it
pub record Run (k : Bool) (line front after : List ℕ) : Type 0 where
  pub whole : line ≡ front ++ after
  pub same : Only k front
  pub ends : Starts (not k) after

-- after a gap of blanks comes a word, which has a byte and no blank, and then the end or a blank
pub record FirstWord (line word after : List ℕ) : Type 0 where
  pub gap : List ℕ
  pub whole : line ≡ gap ++ (word ++ after)
  pub blank_gap : Only true gap
  pub some : 0 < length word
  pub solid : Only false word
  pub ends : Starts true after

-- the words of a line from its first to its last, past which it has only blanks
abbrev pub WordsOf : List ℕ → List (List ℕ) → Type 0
WordsOf line [] = Only true line
WordsOf line (word ∷ more) = (after : List ℕ) × FirstWord line word after × WordsOf after more

-- what the words hold
abbrev pub texts : List (Bor (List ℕ)) → List (List ℕ)
texts ts = map (λ t. t.now) ts
