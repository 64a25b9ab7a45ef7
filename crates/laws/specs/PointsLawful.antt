-- The stress of a point law rises and stays in range.
use Rattle.std.specs.Prelude.{◌≡◌, ℕ, ◌*◌, ◌/◌, ◌<◌, ◌≤◌, T, List, [], ◌∷◌, ℤ, pos, ◌+ℤ◌, ◌-ℤ◌, ◌*ℤ◌, neg_ℤ, ◌≤ℤ◌, ◌<ℤ◌, Some, None, Option, int_lt, unsigned_abs}
use Rattle.std.specs.Int.Signed.{le_z_yes, lt_z_yes}
use Rattle.std.specs.Float.Ieee.Fits.{and_l, and_r}
use Rattle.std.proofs.Common.{sym, ◌∙◌, mul-le-mul_left, mul-div_cancel, mul-zero, div-mul-le_self, arith}
use Rattle.std.proofs.Math.Path.{ap}
use Rattle.std.proofs.Math.Nat.{zero-div}
use Rattle.std.specs.List.{list_all}
use Rattle.std.proofs.lemmas.Nat.{le-div}
use Rattle.std.proofs.lemmas.Int.{ints, by_lt_z}
use Rattle.std.proofs.lemmas.Bool.{cond-true, cond-false}
use Rattle.laws.specs.declared.law.Limits.{Limits}
use Rattle.laws.specs.declared.point.Point.{Point}
use Rattle.laws.specs.Meaning.{Lawful, Limit}
use Rattle.laws.specs.Points.{line, onward, point_stress, point_law, in_range, sound, Sound, after, all_sound}

-- ---- quotients of naturals

module _ (k d : ℕ) (some : 0 < d) where
  part_rises : (n m : ℕ) → n ≤ m → k * n / d ≤ k * m / d
  part_rises n m h = let a = mul-le-mul_left k h in let b = div-mul-le_self (k * n) d in le-div (k * n / d) (k * m) d some (omega arith)

  part_whole : k * d / d ≡ k
  part_whole = mul-div_cancel k some

  part_none : k * 0 / d ≡ 0
  part_none = rw (mul-zero, zero-div)

-- ---- one line

-- q may come right after p
pub record Next (p q : Point) : Type 0 where
  pub strain : p.strain <ℤ q.strain
  pub stress : p.stress ≤ℤ q.stress

module _ (p q : Point) (next : Next p q) where
  abbrev pub rise : ℕ
  rise = unsigned_abs (q.stress -ℤ p.stress)

  abbrev run : ℕ
  run = unsigned_abs (q.strain -ℤ p.strain)

  abbrev pub way : ℤ → ℕ
  way z = unsigned_abs (z -ℤ p.strain)

  run_some : 0 < run
  run_some = omega (arith, ints)

  pub product_natural : (z : ℤ) → p.strain ≤ℤ z → ((q.stress -ℤ p.stress) *ℤ (z -ℤ p.strain)) ≡ pos (rise * way z)
  product_natural z h =
      let a : (q.stress -ℤ p.stress) ≡ pos rise = omega (arith, ints) in
      let b : (z -ℤ p.strain) ≡ pos (way z) = omega (arith, ints) in
      rw (a, b)

  line_is : (z : ℤ) → p.strain ≤ℤ z → line p q z ≡ p.stress +ℤ pos (rise * way z / run)
  unfolding line
  line_is z h =
      let d : (q.strain -ℤ p.strain) ≡ pos run = omega (arith, ints) in
      ap (λ x. p.stress +ℤ x) (rw (product_natural z h, d))

  pub line_rises : (y z : ℤ) → p.strain ≤ℤ y → y ≤ℤ z → line p q y ≤ℤ line p q z
  line_rises y z f h =
      let a = line_is y f in
      let b = line_is z (omega (arith, ints)) in
      let c = part_rises rise run run_some (way y) (way z) (omega (arith, ints)) in
      omega (arith, ints)

  pub line_first : line p q p.strain ≡ p.stress
  line_first =
      let a = line_is p.strain (omega (arith, ints)) in
      let w : way p.strain ≡ 0 = omega (arith, ints) in
      let b : rise * way p.strain / run ≡ 0 = ap (λ n. rise * n / run) w ∙ part_none rise run run_some in
      omega (arith, ints)

  pub line_last : line p q q.strain ≡ q.stress
  line_last =
      let a = line_is q.strain (omega (arith, ints)) in
      let b = part_whole rise run run_some in
      omega (arith, ints)

  pub line_low : (z : ℤ) → p.strain ≤ℤ z → p.stress ≤ℤ line p q z
  line_low z h = let a = line_is z h in omega (arith, ints)

  pub line_high : (z : ℤ) → p.strain ≤ℤ z → z ≤ℤ q.strain → line p q z ≤ℤ q.stress
  line_high z h k = let a = line_rises z q.strain h k in let b = line_last in omega (arith, ints)

-- ---- what the tests of the points tell

pub record Ranged (p : Point) : Type 0 where
  pub strain_low : neg_ℤ (pos 100000000) ≤ℤ p.strain
  pub strain_high : p.strain ≤ℤ pos 100000000
  pub low : neg_ℤ (pos 300000) ≤ℤ p.stress
  pub high : p.stress ≤ℤ pos 300000

pub ranged : (p : Point) → T (in_range p) → Ranged p
ranged p h =
    let a = and_l _ _ h in
    let b = and_l _ _ a in
    record { strain_low = le_z_yes (and_l _ _ b); strain_high = le_z_yes (and_r _ _ b); low = le_z_yes (and_r _ _ a); high = le_z_yes (and_r _ _ h) }

pub sound_range : (before : Option Point) (p : Point) → Sound (before, p) → T (in_range p)
sound_range before p h = and_l _ _ h

pub next : (p q : Point) → Sound (Some p, q) → Next p q
next p q h = let o = and_r _ _ h in record { strain = lt_z_yes (and_l _ _ o); stress = le_z_yes (and_r _ _ o) }

-- the points after p are sound
abbrev pub Chain : Point → List Point → Type 0
Chain p more = T (list_all sound (after (Some p) more))

module _ (p q : Point) (more : List Point) (chain : Chain p (q ∷ more)) where
  pub chain_sound : Sound (Some p, q)
  chain_sound = and_l _ _ chain

  pub chain_next : Next p q
  chain_next = next p q chain_sound

  pub chain_rest : Chain q more
  chain_rest = and_r _ _ chain

module _ (p : Point) (more : List Point) (all : T (all_sound (p ∷ more))) where
  pub first_range : T (in_range p)
  first_range = sound_range None p (and_l (sound (None, p)) _ all)

  pub first_chain : Chain p more
  first_chain = and_r (sound (None, p)) _ all

-- ---- the lines from a point onward

module _ (p q : Point) (more : List Point) (z : ℤ) where
  pub onward_line : z <ℤ q.strain → onward p (q ∷ more) z ≡ line p q z
  onward_line h = cond-true (int_lt z q.strain) _ _ (sym (omega (arith, ints)))

  pub onward_past : q.strain ≤ℤ z → onward p (q ∷ more) z ≡ onward q more z
  onward_past h = cond-false (int_lt z q.strain) _ _ (sym (omega (arith, ints)))

pub onward_low : (p : Point) (more : List Point) → Chain p more → (z : ℤ) → p.strain ≤ℤ z → p.stress ≤ℤ onward p more z
onward_low p [] chain z h = omega (arith, ints)
onward_low p (q ∷ more) chain z h =
    let n = chain_next p q more chain in
    by_lt_z z q.strain
    (λ k. let a = onward_line p q more z k in let b = line_low p q n z h in omega (arith, ints))
    (λ k. let a = onward_past p q more z k in let b = onward_low q more (chain_rest p q more chain) z k in omega (arith, ints))

pub onward_high : (p : Point) (more : List Point) → p.stress ≤ℤ pos 300000 → Chain p more → (z : ℤ) → p.strain ≤ℤ z → onward p more z ≤ℤ pos 300000
onward_high p [] top chain z h = top
onward_high p (q ∷ more) top chain z h =
    let r = (ranged q (sound_range (Some p) q (chain_sound p q more chain))).high in
    by_lt_z z q.strain
    (λ k. let a = onward_line p q more z k in let b = line_high p q (chain_next p q more chain) z h (omega (arith, ints)) in omega (arith, ints))
    (λ k. let a = onward_past p q more z k in let b = onward_high q more r (chain_rest p q more chain) z k in omega (arith, ints))

pub onward_rises : (p : Point) (more : List Point) → Chain p more → (y z : ℤ) → p.strain ≤ℤ y → y ≤ℤ z → onward p more y ≤ℤ onward p more z
onward_rises p [] chain y z f h = omega (arith, ints)
onward_rises p (q ∷ more) chain y z f h =
    let n = chain_next p q more chain in
    let rest = chain_rest p q more chain in
    by_lt_z z q.strain
    (λ k. let a = onward_line p q more y (omega (arith, ints)) in let b = onward_line p q more z k in let c = line_rises p q n y z f h in omega (arith, ints))
    (λ k. let b = onward_past p q more z k in
    by_lt_z y q.strain
    (λ j. let a = onward_line p q more y j in let c = line_high p q n y f (omega (arith, ints)) in let d = onward_low q more rest z k in omega (arith, ints))
    (λ j. let a = onward_past p q more y j in let c = onward_rises q more rest y z j h in omega (arith, ints)))

-- ---- the whole law

module _ (p : Point) (more : List Point) (z : ℤ) where
  pub stress_below : z <ℤ p.strain → point_stress (p ∷ more) z ≡ p.stress
  stress_below h = cond-true (int_lt z p.strain) _ _ (sym (omega (arith, ints)))

  pub stress_onward : p.strain ≤ℤ z → point_stress (p ∷ more) z ≡ onward p more z
  stress_onward h = cond-false (int_lt z p.strain) _ _ (sym (omega (arith, ints)))

pub stress_low : (points : List Point) → T (all_sound points) → (z : ℤ) → neg_ℤ (pos 300000) ≤ℤ point_stress points z
stress_low [] h z = omega (arith, ints)
stress_low (p ∷ more) h z =
    let r = (ranged p (first_range p more h)).low in
    let chain = first_chain p more h in
    by_lt_z z p.strain
    (λ k. let a = stress_below p more z k in omega (arith, ints))
    (λ k. let a = stress_onward p more z k in let b = onward_low p more chain z k in omega (arith, ints))

pub stress_high : (points : List Point) → T (all_sound points) → (z : ℤ) → point_stress points z ≤ℤ pos 300000
stress_high [] h z = omega (arith, ints)
stress_high (p ∷ more) h z =
    let r = (ranged p (first_range p more h)).high in
    let chain = first_chain p more h in
    by_lt_z z p.strain
    (λ k. let a = stress_below p more z k in omega (arith, ints))
    (λ k. let a = stress_onward p more z k in let b = onward_high p more r chain z k in omega (arith, ints))

pub stress_rises : (points : List Point) → T (all_sound points) → (y z : ℤ) → y ≤ℤ z → point_stress points y ≤ℤ point_stress points z
stress_rises [] h y z k = omega (arith, ints)
stress_rises (p ∷ more) h y z k =
    let chain = first_chain p more h in
    by_lt_z y p.strain
    (λ j. let a = stress_below p more y j in
    by_lt_z z p.strain
    (λ i. let b = stress_below p more z i in omega (arith, ints))
    (λ i. let b = stress_onward p more z i in let c = onward_low p more chain z i in omega (arith, ints)))
    (λ j. let a = stress_onward p more y j in let b = stress_onward p more z (omega (arith, ints)) in let c = onward_rises p more chain y z j k in omega (arith, ints))

pub points_lawful : (points : List Point) (limits : Limits) → T (all_sound points) → Limit limits.compression → Limit limits.tension → Lawful (point_law points limits)
points_lawful points limits h c t = record {
  low = λ z f. stress_low points h z;
  high = λ z f. stress_high points h z;
  rises = λ y z f g k. stress_rises points h y z k;
  compression_in = c;
  tension_in = t;
}
