-- Which one of a list is refused: the first that fails a test.
use Rattle.std.specs.Prelude.{ℕ, zero, suc, List, [], ◌∷◌}

-- the item at the place fails, and each one before it passes
abbrev pub FirstOut : {X : Type 0} → (X → Type 0) → List X → ℕ → Type 0
FirstOut Passes [] place = ⊥
FirstOut Passes (x ∷ xs) zero = Passes x → ⊥
FirstOut Passes (x ∷ xs) (suc place) = Passes x × FirstOut Passes xs place
