-- What the number, the limits and the search of a kit give.
use Rattle.std.proofs.Common.{◌≡◌, ℕ, List, ℤ, pos, negsuc, neg_ℤ, ◌≤ℤ◌, ◌<ℤ◌, Some, None, Option, unwrap_or, inr, sym, refl, ap, ◌∙◌, subst, arith}
use Rattle.std.specs.Option.{option_map, ok_or}
use Rattle.std.specs.List.{AllByRecursion}
use Rattle.std.proofs.lemmas.Int.{ints}
use Rattle.refusal.specs.declared.Refusal.TheVariants.{OutOfReach}
use Rattle.laws.specs.Meaning.{Meaning, Lawful, Limit}
use Rattle.laws.specs.declared.law.Limits.{Limits}
use Rattle.search.specs.Points.{Least, Nowhere, LeastOrNone}
use Rattle.kits.specs.Kits.{counted, numbered, stress_of, limits_of, limits_at}
use Rattle.kits.specs.KitsLawful.{Sound, reached_sound, stress_or_zero}
use Rattle.kits.specs.Reach.{NumberTaken, Reaches, StressReached, StressRefused, shortest, longest}
use Rattle.kits.proofs.Numbering.{reached_some, reached_none}

-- ---- the number

pub number_taken : (laws : List Meaning) (number : ℤ) (n : ℕ) → pos n ≡ number → number <ℤ pos (counted laws) → NumberTaken laws number n
number_taken laws number n same few =
    let r = reached_some laws n (omega (arith, ints)) in
    record { same = same; law = r.0; law_is = r.1 }

pub numbered_below : (laws : List Meaning) (number : ℤ) → number <ℤ pos 0 → numbered laws number ≡ None
numbered_below laws (pos n) h = absurd (omega (arith, ints))
numbered_below laws (negsuc n) h = refl

pub numbered_past : (laws : List Meaning) (number : ℤ) → pos (counted laws) ≤ℤ number → numbered laws number ≡ None
numbered_past laws (pos n) h = reached_none laws n (omega (arith, ints))
numbered_past laws (negsuc n) h = refl

-- ---- the law of a number that was taken, and the limits that were read by it

module _ (laws : List Meaning) (number : ℤ) (n : ℕ) (taken : NumberTaken laws number n)
    (limits : Limits) (answer : Option Limits) (asked : answer ≡ limits_at laws n) (read : answer ≡ Some limits) where
  limits_are : limits ≡ limits_of taken.law
  limits_are = let e : Some limits ≡ Some (limits_of taken.law) = sym read ∙ asked ∙ ap (option_map limits_of) taken.law_is in cc

  pub limits_in : AllByRecursion Lawful laws → Limit limits.compression × Limit limits.tension
  limits_in lawful =
      let s = subst Sound taken.law_is (reached_sound laws n lawful) in
      rw limits_are (s.compression_in, s.tension_in)

  law_numbered : numbered laws number ≡ Some taken.law
  law_numbered = subst (λ z. numbered laws z ≡ Some taken.law) taken.same taken.law_is

  module _ (stress first last : ℤ) (first_is : first ≡ neg_ℤ (pos limits.compression)) (last_is : last ≡ pos limits.tension) where
    from : first ≡ shortest taken.law
    from = first_is ∙ ap (λ l. neg_ℤ (pos l.compression)) limits_are

    to : last ≡ longest taken.law
    to = last_is ∙ ap (λ l. pos l.tension) limits_are

    least_reached : (strain : ℤ) → Least (λ x. stress ≤ℤ stress_or_zero laws n x) first last strain → StressReached laws number stress strain
    least_reached strain h = record {
      law = taken.law;
      law_is = law_numbered;
      least = rw (← from, ← to) (subst (λ o. Least (λ x. stress ≤ℤ unwrap_or (option_map (stress_of x) o) (pos 0)) first last strain) taken.law_is h);
    }

    nowhere_reached : Nowhere (λ x. stress ≤ℤ stress_or_zero laws n x) first last → StressRefused laws number stress OutOfReach
    nowhere_reached h = record {
      law = taken.law;
      law_is = law_numbered;
      nowhere = rw (← from, ← to) (subst (λ o. Nowhere (λ x. stress ≤ℤ unwrap_or (option_map (stress_of x) o) (pos 0)) first last) taken.law_is h);
      says = record { number_is = refl; places_are = refl };
    }

    -- what the search finds is the answer, and where it finds none, no strain reaches the stress
    pub reach_answer : (found : Option ℤ) → LeastOrNone (λ x. stress ≤ℤ stress_or_zero laws n x) first last found → Reaches laws number stress (ok_or found OutOfReach)
    reach_answer (Some strain) h = least_reached strain h
    reach_answer None h = inr (nowhere_reached h)
