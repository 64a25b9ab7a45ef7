-- The quantity of the tests: how many of the marks a point has reached. Assumes nothing.
use Rattle.std.specs.Prelude.{◌≤◌, Bool, true, false, cond, T, List, [], ◌∷◌, ℤ, pos, ◌≤ℤ◌, count_by, int_le}
use Rattle.std.specs.Int.Signed.{le_z_yes}
use Rattle.std.proofs.Common.{arith}
use Rattle.std.proofs.lemmas.Int.{ints}
use Rattle.std.proofs.lemmas.List.Sums.{sum_by-cons}

abbrev pub reached : List ℤ → ℤ → ℤ
reached marks x = pos (count_by (λ mark. int_le mark x) marks)

one_le : (a b : Bool) → (T a → T b) → cond a 1 0 ≤ cond b 1 0
one_le true true h = omega arith
one_le true false h = absurd (h tt)
one_le false b h = omega arith

still_reached : (mark x y : ℤ) → x ≤ℤ y → T (int_le mark x) → T (int_le mark y)
still_reached mark x y h t = let a = le_z_yes {a = mark} {b = x} t in let b : mark ≤ℤ y = omega (arith, ints) in b.le

count_rises : (x y : ℤ) → x ≤ℤ y → (marks : List ℤ) → count_by (λ mark. int_le mark x) marks ≤ count_by (λ mark. int_le mark y) marks
count_rises x y h [] = omega arith
count_rises x y h (mark ∷ marks) =
    omega (
      arith,
      sum_by-cons (λ m. cond (int_le m x) 1 0) mark marks,
      sum_by-cons (λ m. cond (int_le m y) 1 0) mark marks,
      one_le (int_le mark x) (int_le mark y) (still_reached mark x y h),
      count_rises x y h marks,
    )

pub reached_rises : (marks : List ℤ) (x y : ℤ) → x ≤ℤ y → reached marks x ≤ℤ reached marks y
reached_rises marks x y h = let c = count_rises x y h marks in omega (arith, ints)
