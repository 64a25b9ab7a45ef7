-- What an ask answers once the admitted range is known: the ground that bars it, or the ends.
use Rattle.std.proofs.Common.{◌≡◌, ℕ, List, ℤ, ◌≤ℤ◌, ◌<ℤ◌, Ok, Err, refl, inl, inr, arith}
use Rattle.std.proofs.lemmas.Int.{ints}
use Rattle.refusal.specs.declared.Refusal.TheVariants.{NoneAdmitted, Crushed, Parted}
use Rattle.search.specs.Points.{Least, Greatest}
use Rattle.laws.specs.Meaning.{Meaning}
use Rattle.section.specs.Fibres.{force, moment, Admitted}
use Rattle.section.specs.Asked.{SetsLeast, SetsGreatest, Askable, Asked}
use Rattle.section.specs.Truths.{Exactly}
use Rattle.section.specs.declared.fibre.Fibre.{Fibre}
use Rattle.section.specs.declared.ends.Ends.{Ends}

module _ (laws : List Meaning) (fibres : List Fibre) (load : ℤ) (depth curvature : ℕ) (askable : Askable fibres curvature)
    (p q : ℕ) (s : SetsLeast laws fibres curvature p) (t : SetsGreatest laws fibres curvature q) (low high : ℤ)
    (range : (top : ℤ) → Exactly (Admitted laws fibres curvature top) ((low ≤ℤ top) × (top ≤ℤ high))) where
  pub none_admitted : high <ℤ low → Asked laws fibres load depth curvature (Err (NoneAdmitted p q))
  none_admitted crossed = inr (inr (inl (record {
    askable = askable;
    none = λ top a. let h = (range top).0 a in omega (arith, ints);
    compressed = p;
    sets_least = s;
    stretched = q;
    sets_greatest = t;
    says = record { number_is = refl; places_are = refl };
  })))

  pub crushed : low ≤ℤ high → load <ℤ force laws fibres curvature low → Asked laws fibres load depth curvature (Err (Crushed p))
  crushed wide above = inr (inr (inr (inl (record {
    askable = askable;
    least = low;
    is_least = record { holds = (range low).1 (omega (arith, ints), wide); first = λ y a. ((range y).0 a).0 };
    above = above;
    place = p;
    sets_least = s;
    says = record { number_is = refl; places_are = refl };
  }))))

  pub parted : low ≤ℤ high → force laws fibres curvature high <ℤ load → Asked laws fibres load depth curvature (Err (Parted q))
  parted wide short = inr (inr (inr (inr (record {
    askable = askable;
    greatest = high;
    is_greatest = record { holds = (range high).1 (wide, omega (arith, ints)); last = λ y a. ((range y).0 a).1 };
    below = short;
    place = q;
    sets_greatest = t;
    says = record { number_is = refl; places_are = refl };
  }))))

  pub balanced : (e : Ends) → Least (λ top. load ≤ℤ force laws fibres curvature top) low high e.first → Greatest (λ top. force laws fibres curvature top ≤ℤ load) low high e.last
      → e.first_moment ≡ moment laws fibres load depth curvature e.first → e.last_moment ≡ moment laws fibres load depth curvature e.last
      → Asked laws fibres load depth curvature (Ok e)
  balanced e x y m n = (
    askable,
    record {
      first_end = record { holds = ((range e.first).1 (x.from, x.to), x.holds); first = λ z h. x.first z ((range z).0 h.0).0 ((range z).0 h.0).1 h.1 };
      last_end = record { holds = ((range e.last).1 (y.from, y.to), y.holds); last = λ z h. y.last z ((range z).0 h.0).0 ((range z).0 h.0).1 h.1 };
      first_moment_is = m;
      last_moment_is = n;
    },
  )
