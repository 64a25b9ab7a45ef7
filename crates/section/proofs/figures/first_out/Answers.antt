use Rattle.std.proofs.Common.{ℕ, zero, suc, ◌<◌, List, [], ◌∷◌, length, Some, None, Option, MatchOption, arith, rules, tests}
use Rattle.std.specs.List.{AllByRecursion, AllWithin, HoldsAt}
use Rattle.std.proofs.lemmas.Iterator.{IsFirst-from_position, YieldsList-from_slice}
use Rattle.std.proofs.lemmas.List.Elements.{recursion_from_All, All-from_all_within}
use Rattle.refusal.specs.First.{FirstOut}
use Rattle.section.specs.Calls.{Within}
use Rattle.section.proofs.figures.first_out.Goals as goal

module _ {X : Type 0} (Passes : X → Type 0) where
  first_fails : (xs : List X) (i : ℕ) → i < length xs → HoldsAt (λ x. Passes x → ⊥) xs i → AllWithin Passes xs 0 i → FirstOut Passes xs i
  first_fails [] i inside here before = absurd (omega arith)
  first_fails (x ∷ xs) zero inside here before = here x
  first_fails (x ∷ xs) (suc i) inside here before =
      (before 0 x (omega arith) (omega arith), first_fails xs i (omega arith) here (λ k d l h. before (suc k) d (omega arith) (omega arith)))

  place_found : (xs : List X) (r : Option ℕ) → MatchOption r (AllWithin Passes xs 0 (length xs)) (λ i. (i < length xs) × HoldsAt (λ x. Passes x → ⊥) xs i × AllWithin Passes xs 0 i)
      → MatchOption r (AllByRecursion Passes xs) (FirstOut Passes xs)
  place_found xs None h = recursion_from_All Passes xs (All-from_all_within Passes xs h)
  place_found xs (Some i) h = first_fails xs i h.0 h.1 h.2

pub returns : goal.returns
returns c =
    let xs = c.args.figures.now in
    place_found Within xs _ (IsFirst-from_position _ _ _ (λ f. Within f → ⊥) Within c.position.ensures.ran (YieldsList-from_slice xs cc)
    (λ x q k. search (rules, tests)) (λ x q k. search (rules, tests)))
