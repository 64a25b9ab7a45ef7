-- The laws that the numbers of a kit reach, and those of two kits joined.
use Rattle.std.proofs.Common.{◌≡◌, ℕ, ◌<◌, ◌≤◌, ltb, List, [], ◌∷◌, length, get_or, Some, None, ◌∙◌, ⊎_elim, arith}
use Rattle.std.specs.List.{slice_get}
use Rattle.std.proofs.lemmas.Option.{slice_get-get_or, slice_get_past}
use Rattle.std.proofs.lemmas.Bool.{lt-ltb, le-ltb, cond-true, cond-false, cases_lt}
use Rattle.laws.specs.Meaning.{Meaning}
use Rattle.kits.specs.Kits.{counted, reached}

reached_under : (laws : List Meaning) (n : ℕ) → n < 255 → reached laws n ≡ slice_get laws n
reached_under laws n h = cond-true (ltb n 255) (slice_get laws n) None (lt-ltb n 255 h)

-- ---- one kit

some_nth : (laws : List Meaning) (n : ℕ) → n < length laws → (law : Meaning) × (slice_get laws n ≡ Some law)
some_nth [] n h = absurd (omega arith)
some_nth (law ∷ laws) n h = (get_or (law ∷ laws) n law, slice_get-get_or (law ∷ laws) n law h)

pub reached_some : (laws : List Meaning) (n : ℕ) → n < counted laws → (law : Meaning) × (reached laws n ≡ Some law)
reached_some laws n h =
    let s = some_nth laws n (omega arith) in
    (s.0, reached_under laws n (omega arith) ∙ s.1)

pub reached_none : (laws : List Meaning) (n : ℕ) → counted laws ≤ n → reached laws n ≡ None
reached_none laws n h =
    ⊎_elim
    (λ l. reached_under laws n l ∙ slice_get_past laws n (omega arith))
    (λ g. cond-false (ltb n 255) (slice_get laws n) None (le-ltb n 255 g))
    (cases_lt n 255)
