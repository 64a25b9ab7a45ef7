-- What a walk knows that looks for the first of a list to fail a test.
use Rattle.std.proofs.Common.{◌≡◌, ℕ, suc, ◌+◌, List, ◌∷◌, subst, add-zero, arith}
use Rattle.std.specs.List.{AllByRecursion}
use Rattle.refusal.specs.First.{FirstOut}

-- the first n of the list have passed, and the rest is still to be looked at
pub record Passed {X : Type 0} (Passes : X → Type 0) (list rest : List X) (n : ℕ) : Type 0 where
  pub all : AllByRecursion Passes rest → AllByRecursion Passes list
  pub first : (k : ℕ) → FirstOut Passes rest k → FirstOut Passes list (n + k)

module _ {X : Type 0} (Passes : X → Type 0) (list : List X) where
  pub passed_more : (x : X) (rest : List X) (n : ℕ) → Passed Passes list (x ∷ rest) n → Passes x → Passed Passes list rest (n + 1)
  passed_more x rest n known h = record {
    all = λ more. known.all (h, more);
    first = λ k more. let e : n + suc k ≡ n + 1 + k = omega arith in subst (FirstOut Passes list) e (known.first (suc k) (h, more));
  }

  pub passed_out : (x : X) (rest : List X) (n : ℕ) → Passed Passes list (x ∷ rest) n → (Passes x → ⊥) → FirstOut Passes list n
  passed_out x rest n known out = subst (FirstOut Passes list) (add-zero n) (known.first 0 out)
