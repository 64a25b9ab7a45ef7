-- What a bisection knows between two turns, for a P that holds on once it holds. Assumes nothing.
use Rattle.std.proofs.Common.{◌≡◌, ℤ, pos, ◌+ℤ◌, ◌≤ℤ◌, ◌<ℤ◌, subst, arith, w32, SFits}
use Rattle.std.proofs.lemmas.Int.{ints, by_lt_z}
use Rattle.search.specs.Points.{Least, Nowhere}

abbrev pub HoldsOn : (ℤ → Type 0) → ℤ → ℤ → Type 0
HoldsOn P low high = (x y : ℤ) → low ≤ℤ x → y ≤ℤ high → x ≤ℤ y → P x → P y

-- the least point is in the part from bottom to top
pub record Between (P : ℤ → Type 0) (low high bottom top : ℤ) : Type 0 where
  pub starts : low ≤ℤ bottom
  pub meets : bottom ≤ℤ top
  pub ends : top ≤ℤ high
  pub before : (x : ℤ) → low ≤ℤ x → x <ℤ bottom → P x → ⊥
  pub holds : P top

module _ (P : ℤ → Type 0) (low high bottom top middle : ℤ) (known : Between P low high bottom top)
    (from : bottom ≤ℤ middle) (below : middle <ℤ top) where
  pub between_upper : HoldsOn P low high → (P middle → ⊥) → Between P low high (middle +ℤ pos 1) top
  between_upper on not = record {
    starts = let a = known.starts in omega (arith, ints);
    meets = omega (arith, ints);
    ends = known.ends;
    before = λ x a b p. let e = known.ends in not (on x middle a (omega (arith, ints)) (omega (arith, ints)) p);
    holds = known.holds;
  }

  pub between_lower : P middle → (start : ℤ) → start ≡ bottom → Between P low high start middle
  between_lower p start same = record {
    starts = let a = known.starts in omega (arith, ints);
    meets = omega (arith, ints);
    ends = let e = known.ends in omega (arith, ints);
    before = λ x a b. known.before x a (omega (arith, ints));
    holds = p;
  }

pub between_one : (P : ℤ → Type 0) (low high bottom top : ℤ) → Between P low high bottom top → top ≤ℤ bottom → Least P low high bottom
between_one P low high bottom top known done =
    let m = known.meets in
    let e = known.ends in
    let same : top ≡ bottom = omega (arith, ints) in
    record {
      from = known.starts;
      to = omega (arith, ints);
      holds = subst P same known.holds;
      first = λ x a b p. by_lt_z x bottom (λ l. absurd (known.before x a l p)) (λ l. l);
    }

pub nowhere_empty : (P : ℤ → Type 0) (low high : ℤ) → high <ℤ low → Nowhere P low high
nowhere_empty P low high h x a b p = omega (arith, ints)

pub nowhere_not_at_end : (P : ℤ → Type 0) (low high : ℤ) → HoldsOn P low high → (P high → ⊥) → Nowhere P low high
nowhere_not_at_end P low high on not x a b p = not (on x high a (omega (arith, ints)) b p)

-- what is not below a target stays so, where the value never falls
pub reaches_on : {covers : ℤ → Type 0} {value : ℤ → ℤ} {low high : ℤ} (target : ℤ)
    → ((x y : ℤ) → covers x → covers y → x ≤ℤ y → value x ≤ℤ value y)
    → ((x : ℤ) → low ≤ℤ x → x ≤ℤ high → covers x)
    → HoldsOn (λ x. target ≤ℤ value x) low high
reaches_on target rises covered x y a b h p =
    let r = rises x y (covered x a (omega (arith, ints))) (covered y (omega (arith, ints)) b) h in
    omega (arith, ints)

pub next_fits : (x y : ℤ) → SFits w32 x → SFits w32 y → x <ℤ y → SFits w32 (x +ℤ pos 1)
next_fits x y f g h = omega (arith, ints)
