-- What the walk over the neighbours knows between two turns.
use Rattle.std.proofs.Common.{◌≡◌, ℕ, ◌+◌, ◌<◌, Bool, true, false, T, List, ◌∷◌, length, get_or, drop, ℤ, ◌≤ℤ◌, ◌<ℤ◌, Some, ◌∙◌, subst, arith, w64, SFits, to_z, of_z}
use lib.Signed.{lt_z}
use Rattle.std.proofs.lemmas.List.{drop_more}
use Rattle.std.proofs.lemmas.Int.{ints}
use Rattle.laws.specs.declared.point.Point.{Point}
use Rattle.laws.specs.Points.{line, onward, point_stress, in_range, Sound, Spans}
use Rattle.laws.specs.PointsLawful.{ranged, sound_range, Chain, chain_sound, chain_rest, onward_line, onward_past}

-- the strain is not below the point p, from which on only what follows it counts
pub record Past (points : List Point) (strain : ℤ) (p : Point) (rest : List Point) : Type 0 where
  pub reached : p.strain ≤ℤ strain
  pub range : T (in_range p)
  pub chain : Chain p rest
  pub same : point_stress points strain ≡ onward p rest strain

-- the code's test whether a strain is below that of a point
abbrev below : ℤ → Point → Bool
below z p = lt_z (to_z w64 (of_z w64 z)) (to_z w64 (of_z w64 p.strain))

module _ (z : ℤ) (p : Point) (fits : SFits w64 z) (range : T (in_range p)) where
  below_true : below z p ≡ true → z <ℤ p.strain
  below_true e = let r = ranged p range in omega (arith, ints)

  below_false : below z p ≡ false → p.strain ≤ℤ z
  below_false e = let r = ranged p range in omega (arith, ints)

-- at the next point of the list that is walked
module _ {points : List Point} {z : ℤ} {p : Point} (list : List Point) (i : ℕ) (d : Point) (inside : i < length list) (known : Past points z p (drop i list)) (fits : SFits w64 z) where
  abbrev here : Point
  here = get_or list i d

  at_here : Past points z p (here ∷ drop (i + 1) list)
  at_here = subst (Past points z p) (drop_more list i d inside) known

  here_sound : Sound (Some p, here)
  here_sound = chain_sound p here (drop (i + 1) list) at_here.chain

  here_range : T (in_range here)
  here_range = sound_range (Some p) here here_sound

  pub here_spans : below z here ≡ true → Spans p here z
  here_spans e = let h = below_true z here fits here_range e in record { from = known.range; to = here_sound; low = known.reached; high = omega (arith, ints) }

  pub here_line : below z here ≡ true → point_stress points z ≡ line p here z
  here_line e = at_here.same ∙ onward_line p here (drop (i + 1) list) z (below_true z here fits here_range e)

  pub past_more : below z here ≡ false → Past points z here (drop (i + 1) list)
  past_more e =
      let h = below_false z here fits here_range e in
      record {
        reached = h;
        range = here_range;
        chain = chain_rest p here (drop (i + 1) list) at_here.chain;
        same = at_here.same ∙ onward_past p here (drop (i + 1) list) z h;
      }
