-- Every law that a number of a kit reaches is lawful, so that its stress never falls.
use Rattle.std.specs.Prelude.{ℕ, zero, suc, Bool, true, false, cond, List, [], ◌∷◌, ◌++◌, map, ℤ, pos, ◌≤ℤ◌, Some, None, Option, nat_lt}
use Rattle.std.proofs.Common.{arith}
use Rattle.std.specs.Option.{unwrap_or, option_map}
use Rattle.std.specs.List.{AllByRecursion, slice_get}
use Rattle.std.proofs.lemmas.Int.{ints}
use Rattle.laws.specs.Meaning.{Meaning, Lawful, Strain}
use Rattle.kits.specs.Kits.{reached, stress_of, stress_at}

-- a list of laws, each lawful
pub map_lawful : {L : Type 0} (meaning : L → Meaning) → ((x : L) → Lawful (meaning x)) → (xs : List L) → AllByRecursion Lawful (map meaning xs)
map_lawful meaning lawful [] = tt
map_lawful meaning lawful (x ∷ xs) = (lawful x, map_lawful meaning lawful xs)

-- the laws of two lists, each lawful
pub append_lawful : (first second : List Meaning) → AllByRecursion Lawful first → AllByRecursion Lawful second → AllByRecursion Lawful (first ++ second)
append_lawful [] second f s = s
append_lawful (law ∷ first) second f s = (f.0, append_lawful first second f.1 s)

-- there is no law, or it is lawful
abbrev pub Sound : Option Meaning → Type 0
Sound None = Unit {0}
Sound (Some law) = Lawful law

nth_sound : (laws : List Meaning) (n : ℕ) → AllByRecursion Lawful laws → Sound (slice_get laws n)
nth_sound [] n h = tt
nth_sound (law ∷ laws) zero h = h.0
nth_sound (law ∷ laws) (suc n) h = nth_sound laws n h.1

cond_sound : (b : Bool) (o : Option Meaning) → Sound o → Sound (cond b o None)
cond_sound true o h = h
cond_sound false o h = tt

pub reached_sound : (laws : List Meaning) (n : ℕ) → AllByRecursion Lawful laws → Sound (reached laws n)
reached_sound laws n h = cond_sound (nat_lt n 255) (slice_get laws n) (nth_sound laws n h)

-- the stress by the law of a number, and 0 where there is none
abbrev pub stress_or_zero : List Meaning → ℕ → ℤ → ℤ
stress_or_zero laws number strain = unwrap_or (stress_at laws number strain) (pos 0)

option_rises : (o : Option Meaning) → Sound o → (x y : ℤ) → Strain x → Strain y → x ≤ℤ y
    → unwrap_or (option_map (stress_of x) o) (pos 0) ≤ℤ unwrap_or (option_map (stress_of y) o) (pos 0)
option_rises None s x y f g h = omega (arith, ints)
option_rises (Some law) s x y f g h = s.rises x y f g h

pub stress_rises : (laws : List Meaning) → AllByRecursion Lawful laws → (n : ℕ) (x y : ℤ) → Strain x → Strain y → x ≤ℤ y
    → stress_or_zero laws n x ≤ℤ stress_or_zero laws n y
stress_rises laws h n = option_rises (reached laws n) (reached_sound laws n h)
