-- How the first item that fails is found, and that it is one only.
use Rattle.std.proofs.Common.{◌≡◌, ℕ, zero, suc, ◌<◌, List, [], ◌∷◌, length, get_or, take, refl, ap, arith}
use Rattle.std.specs.List.{AllByRecursion}
use Rattle.refusal.specs.First.{FirstOut}

pub first_out_at : {X : Type 0} (Passes : X → Type 0) (xs : List X) (i : ℕ) (d : X) → i < length xs → AllByRecursion Passes (take i xs) → (Passes (get_or xs i d) → ⊥) → FirstOut Passes xs i
first_out_at Passes [] i d inside before here = absurd (omega arith)
first_out_at Passes (x ∷ xs) zero d inside before here = here
first_out_at Passes (x ∷ xs) (suc i) d inside before here = (before.0, first_out_at Passes xs i d (omega arith) before.1 here)

pub first_out_within : {X : Type 0} (Passes : X → Type 0) (xs : List X) (place : ℕ) → FirstOut Passes xs place → place < length xs
first_out_within Passes [] place h = absurd h
first_out_within Passes (x ∷ xs) zero h = omega arith
first_out_within Passes (x ∷ xs) (suc place) h = let k = first_out_within Passes xs place h.1 in omega arith

-- where every item passes, none is the first that fails
pub first_out_none : {X : Type 0} (Passes : X → Type 0) (xs : List X) (place : ℕ) → AllByRecursion Passes xs → FirstOut Passes xs place → ⊥
first_out_none Passes [] place h k = k
first_out_none Passes (x ∷ xs) zero h k = k h.0
first_out_none Passes (x ∷ xs) (suc place) h k = first_out_none Passes xs place h.1 k.1

pub first_out_once : {X : Type 0} (Passes : X → Type 0) (xs : List X) (p q : ℕ) → FirstOut Passes xs p → FirstOut Passes xs q → p ≡ q
first_out_once Passes [] p q h k = absurd h
first_out_once Passes (x ∷ xs) zero zero h k = refl
first_out_once Passes (x ∷ xs) zero (suc q) h k = absurd (h k.0)
first_out_once Passes (x ∷ xs) (suc p) zero h k = absurd (k h.0)
first_out_once Passes (x ∷ xs) (suc p) (suc q) h k = ap suc (first_out_once Passes xs p q h.1 k.1)
