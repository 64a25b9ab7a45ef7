-- The point law: the given stress at each given strain, straight lines between neighbours, the end stresses beyond.
use Rattle.std.specs.Prelude.{◌≡◌, ℕ, ◌≤◌, Bool, true, cond, ◌&&◌, T, ◌⊎◌, List, [], ◌∷◌, ◌++◌, length, ℤ, pos, ◌+ℤ◌, ◌-ℤ◌, ◌*ℤ◌, neg_ℤ, ◌≤ℤ◌, Some, None, Option, int_div, int_le, int_lt, unsigned_abs}
use Rattle.std.specs.List.{list_all, AllByRecursion}
use Rattle.refusal.specs.First.{FirstOut}
use Rattle.refusal.specs.Refusals.{Says}
use Rattle.refusal.specs.declared.Refusal.{Refusal}
use Rattle.laws.specs.declared.law.Limits.{Limits}
use Rattle.laws.specs.declared.point.Point.{Point}
use Rattle.laws.specs.Meaning.{Meaning, Limit}

-- ---- the stress

-- on the line from p to q, the fraction of the quotient dropped
unfoldable pub line : Point → Point → ℤ → ℤ
line p q strain = p.stress +ℤ int_div ((q.stress -ℤ p.stress) *ℤ (strain -ℤ p.strain)) (q.strain -ℤ p.strain)

-- from the point p onward: on the lines between neighbours, and past the last point its stress
abbrev pub onward : Point → List Point → ℤ → ℤ
onward p [] strain = p.stress
onward p (q ∷ more) strain = cond (int_lt strain q.strain) (line p q strain) (onward q more strain)

-- up to the first point its stress
abbrev pub point_stress : List Point → ℤ → ℤ
point_stress [] strain = pos 0
point_stress (p ∷ more) strain = cond (int_lt strain p.strain) p.stress (onward p more strain)

abbrev pub point_law : List Point → Limits → Meaning
point_law points limits = record { stress = point_stress points; compression = limits.compression; tension = limits.tension }

-- ---- the points that make a law

-- the strain within 100,000,000 nano, the stress within 300,000 psi
abbrev pub in_range : Point → Bool
in_range p = int_le (neg_ℤ (pos 100000000)) p.strain && int_le p.strain (pos 100000000) && int_le (neg_ℤ (pos 300000)) p.stress && int_le p.stress (pos 300000)

-- above the point before it, if any, in strain, and not below it in stress
abbrev pub in_order : Option Point → Point → Bool
in_order None p = true
in_order (Some before) p = int_lt before.strain p.strain && int_le before.stress p.stress

-- sound: in range, and in order after the point before it
abbrev pub sound : Option Point × Point → Bool
sound s = in_range s.1 && in_order s.0 s.1

abbrev pub Sound : Option Point × Point → Type 0
Sound s = T (sound s)

-- each point with the one before it, if any
abbrev pub after : Option Point → List Point → List (Option Point × Point)
after before [] = []
after before (p ∷ more) = (before, p) ∷ after (Some p) more

-- what a law that is held always passes
abbrev pub all_sound : List Point → Bool
all_sound points = list_all sound (after None points)

-- a strain from the point p to the point q, which are in range and in order
pub record Spans (p q : Point) (strain : ℤ) : Type 0 where
  pub from : T (in_range p)
  pub to : Sound (Some p, q)
  pub low : p.strain ≤ℤ strain
  pub high : strain ≤ℤ q.strain

-- a number that was asked for as a limit
abbrev pub AskedLimit : ℤ → Type 0
AskedLimit z = (pos 0 ≤ℤ z) × Limit (unsigned_abs z)

-- 2 to 16 points, and limits in range
pub record PointLawForm (points : List Point) (compression tension : ℤ) : Type 0 where
  pub enough : 2 ≤ length points
  pub few : length points ≤ 16
  pub compression_in : AskedLimit compression
  pub tension_in : AskedLimit tension

-- every point is sound, and the law has the points and the limits as they were given
pub record PointsTaken (points : List Point) (compression tension : ℤ) (held : List Point) (limits : Limits) : Type 0 where
  pub form : PointLawForm points compression tension
  pub sound : AllByRecursion Sound (after None points)
  pub points_are : held ≡ points
  pub compression_is : pos limits.compression ≡ compression
  pub tension_is : pos limits.tension ≡ tension

-- refused by 3
pub record FormRefused (points : List Point) (compression tension : ℤ) (refusal : Refusal) : Type 0 where
  pub no_form : PointLawForm points compression tension → ⊥
  pub says : Says refusal 3 []

-- refused by 4 with the place of the first point that is out of range or out of order
pub record PointRefused (points : List Point) (compression tension : ℤ) (refusal : Refusal) : Type 0 where
  pub form : PointLawForm points compression tension
  pub place : ℕ
  pub first : FirstOut Sound (after None points) place
  pub says : Says refusal 4 (pos place ∷ [])

abbrev pub PointsRefused : List Point → ℤ → ℤ → Refusal → Type 0
PointsRefused points compression tension refusal = FormRefused points compression tension refusal ⊎ PointRefused points compression tension refusal

-- ---- what the definition of the stress comes to

pub record PointShape (points : List Point) : Type 0 where
  -- at each given point the given stress
  pub given : (front rest : List Point) (p : Point) → points ≡ front ++ p ∷ rest → point_stress points p.strain ≡ p.stress
  -- between neighbours the stress is that of their line, and lies between theirs
  pub lines : (front rest : List Point) (p q : Point) → points ≡ front ++ p ∷ q ∷ rest → (z : ℤ) → p.strain ≤ℤ z → z ≤ℤ q.strain → point_stress points z ≡ line p q z
  pub between : (front rest : List Point) (p q : Point) → points ≡ front ++ p ∷ q ∷ rest → (z : ℤ) → p.strain ≤ℤ z → z ≤ℤ q.strain → (p.stress ≤ℤ point_stress points z) × (point_stress points z ≤ℤ q.stress)
  -- never falling
  pub rises : (y z : ℤ) → y ≤ℤ z → point_stress points y ≤ℤ point_stress points z
  -- before the first point the first stress, after the last the last
  pub first : (rest : List Point) (p : Point) → points ≡ p ∷ rest → (z : ℤ) → z ≤ℤ p.strain → point_stress points z ≡ p.stress
  pub last : (front : List Point) (p : Point) → points ≡ front ++ p ∷ [] → (z : ℤ) → p.strain ≤ℤ z → point_stress points z ≡ p.stress
  -- within range
  pub low : (z : ℤ) → neg_ℤ (pos 300000) ≤ℤ point_stress points z
  pub high : (z : ℤ) → point_stress points z ≤ℤ pos 300000
