-- The stress of a point law has the shape that its definition means it to have.
use Rattle.std.proofs.Common.{◌≡◌, Bool, true, false, ◌&&◌, T, List, [], ◌∷◌, ◌++◌, ℤ, ◌≤ℤ◌, ◌<ℤ◌, Option, sym, refl, ap, ◌∙◌, subst, arith}
use Rattle.std.specs.List.{list_all, AllByRecursion}
use Rattle.std.proofs.lemmas.Int.{ints, by_lt_z}
use Rattle.laws.specs.declared.point.Point.{Point}
use Rattle.laws.specs.Points.{line, onward, point_stress, sound, Sound, all_sound, PointShape}
use Rattle.laws.specs.PointsLawful.{Chain, chain_next, chain_rest, first_chain, line_first, line_last, line_low, line_high, onward_line, onward_past, stress_below, stress_onward, stress_low, stress_high, stress_rises}

onward_start : (p : Point) (more : List Point) → Chain p more → onward p more p.strain ≡ p.stress
onward_start p [] chain = refl
onward_start p (q ∷ more) chain =
    let n = chain_next p q more chain in
    onward_line p q more p.strain n.strain ∙ line_first p q n

onward_whole_line : (p q : Point) (more : List Point) → Chain p (q ∷ more) → (z : ℤ) → z ≤ℤ q.strain → onward p (q ∷ more) z ≡ line p q z
onward_whole_line p q more chain z h =
    by_lt_z z q.strain (onward_line p q more z)
    (λ k.
    let e : z ≡ q.strain = omega (arith, ints) in
    let s = onward_start q more (chain_rest p q more chain) in
    let l = line_last p q (chain_next p q more chain) in
    onward_past p q more z k ∙ ap (onward q more) e ∙ s ∙ sym l ∙ ap (line p q) (sym e))

above : (a : Point) (front rest : List Point) (p : Point) → Chain a (front ++ p ∷ rest) → a.strain <ℤ p.strain
above a [] rest p chain = (chain_next a p rest chain).strain
above a (b ∷ front) rest p chain =
    let n = (chain_next a b (front ++ p ∷ rest) chain).strain in
    let m = above b front rest p (chain_rest a b (front ++ p ∷ rest) chain) in
    omega (arith, ints)

-- from the point p onward only what follows it counts
record Reached (p : Point) (rest : List Point) (stress : ℤ → ℤ) : Type 0 where
  chain : Chain p rest
  same : (z : ℤ) → p.strain ≤ℤ z → stress z ≡ onward p rest z

reached_onward : (a : Point) (front rest : List Point) (p : Point) → Chain a (front ++ p ∷ rest) → Reached p rest (onward a (front ++ p ∷ rest))
reached_onward a [] rest p chain = record { chain = chain_rest a p rest chain; same = onward_past a p rest }
reached_onward a (b ∷ front) rest p chain =
    let left = chain_rest a b (front ++ p ∷ rest) chain in
    let more = reached_onward b front rest p left in
    let m = above b front rest p left in
    record { chain = more.chain; same = λ z h. onward_past a b (front ++ p ∷ rest) z (omega (arith, ints)) ∙ more.same z h }

reached : (front rest : List Point) (p : Point) → T (all_sound (front ++ p ∷ rest)) → Reached p rest (point_stress (front ++ p ∷ rest))
reached [] rest p all = record { chain = first_chain p rest all; same = stress_onward p rest }
reached (a ∷ front) rest p all =
    let left = first_chain a (front ++ p ∷ rest) all in
    let more = reached_onward a front rest p left in
    let m = above a front rest p left in
    record { chain = more.chain; same = λ z h. stress_onward a (front ++ p ∷ rest) z (omega (arith, ints)) ∙ more.same z h }

module _ (points : List Point) (all : T (all_sound points)) where
  at : (front rest : List Point) (p : Point) → points ≡ front ++ p ∷ rest → Reached p rest (point_stress points)
  at front rest p e =
      let P : List Point → Type 0 = λ ps. T (all_sound ps) in
      let Q : List Point → Type 0 = λ ps. Reached p rest (point_stress ps) in
      subst Q (sym e) (reached front rest p (subst P e all))

  on_given : (front rest : List Point) (p : Point) → points ≡ front ++ p ∷ rest → point_stress points p.strain ≡ p.stress
  on_given front rest p e = let r = at front rest p e in r.same p.strain (omega (arith, ints)) ∙ onward_start p rest r.chain

  module _ (front rest : List Point) (p q : Point) (e : points ≡ front ++ p ∷ q ∷ rest) (z : ℤ) (f : p.strain ≤ℤ z) (h : z ≤ℤ q.strain) where
    on_line : point_stress points z ≡ line p q z
    on_line = let r = at front (q ∷ rest) p e in r.same z f ∙ onward_whole_line p q rest r.chain z h

    in_between : (p.stress ≤ℤ point_stress points z) × (point_stress points z ≤ℤ q.stress)
    in_between =
        let n = chain_next p q rest (at front (q ∷ rest) p e).chain in
        let l = on_line in
        let a = line_low p q n z f in
        let b = line_high p q n z f h in
        (omega (arith, ints), omega (arith, ints))

  up_to_first : (rest : List Point) (p : Point) → points ≡ p ∷ rest → (z : ℤ) → z ≤ℤ p.strain → point_stress points z ≡ p.stress
  up_to_first rest p e z h =
      by_lt_z z p.strain (λ k. ap (λ ps. point_stress ps z) e ∙ stress_below p rest z k)
      (λ k. let same : z ≡ p.strain = omega (arith, ints) in ap (point_stress points) same ∙ on_given [] rest p e)

  pub point_shape : PointShape points
  point_shape = record {
    given = on_given;
    lines = on_line;
    between = in_between;
    rises = stress_rises points all;
    first = up_to_first;
    last = λ front p e. (at front [] p e).same;
    low = stress_low points all;
    high = stress_high points all;
  }

both : (a b : Bool) → T a → T b → T (a && b)
both true b x y = y
both false b x y = absurd x

-- the test that a law's ghost field holds
pub all_pass_from_all : (steps : List (Option Point × Point)) → AllByRecursion Sound steps → T (list_all sound steps)
all_pass_from_all [] h = tt
all_pass_from_all (s ∷ more) h = both (sound s) (list_all sound more) h.0 (all_pass_from_all more h.1)
