-- The least and the greatest point from low to high at which P holds, and the answers that give it. Assumes nothing.
use Rattle.std.specs.Prelude.{◌≡◌, ℤ, ◌≤ℤ◌, Some, None, Option}

pub record Least (P : ℤ → Type 0) (low high point : ℤ) : Type 0 where
  pub from : low ≤ℤ point
  pub to : point ≤ℤ high
  pub holds : P point
  pub first : (x : ℤ) → low ≤ℤ x → x ≤ℤ high → P x → point ≤ℤ x

pub record Greatest (P : ℤ → Type 0) (low high point : ℤ) : Type 0 where
  pub from : low ≤ℤ point
  pub to : point ≤ℤ high
  pub holds : P point
  pub last : (x : ℤ) → low ≤ℤ x → x ≤ℤ high → P x → x ≤ℤ point

-- P holds at no point from low to high
abbrev pub Nowhere : (ℤ → Type 0) → ℤ → ℤ → Type 0
Nowhere P low high = (x : ℤ) → low ≤ℤ x → x ≤ℤ high → P x → ⊥

abbrev pub LeastOrNone : (ℤ → Type 0) → ℤ → ℤ → Option ℤ → Type 0
LeastOrNone P low high None = Nowhere P low high
LeastOrNone P low high (Some point) = Least P low high point

abbrev pub GreatestOrNone : (ℤ → Type 0) → ℤ → ℤ → Option ℤ → Type 0
GreatestOrNone P low high None = Nowhere P low high
GreatestOrNone P low high (Some point) = Greatest P low high point

-- whatever answers is this answer
abbrev pub Only : (Option ℤ → Type 0) → Option ℤ → Type 0
Only Answers answer = (other : Option ℤ) → Answers other → other ≡ answer
