-- The book of a section, and what each call answers and leaves in it.
use Rattle.std.specs.Prelude.{◌≡◌, ℕ, ◌<◌, ◌≤◌, Bool, ◌&&◌, T, ◌⊎◌, List, [], ◌∷◌, ◌++◌, length, ℤ, pos, neg_ℤ, ◌≤ℤ◌, ◌<ℤ◌, Some, Result, MatchResult, int_le, unsigned_abs}
use Rattle.std.specs.List.{remove, AllByRecursion}
use Rattle.refusal.specs.First.{FirstOut}
use Rattle.refusal.specs.Refusals.{Says}
use Rattle.refusal.specs.declared.Refusal.{Refusal}
use Rattle.laws.specs.Meaning.{Meaning}
use Rattle.kits.specs.Kits.{numbered}
use Rattle.kits.specs.Reach.{NumberRefused}
use Rattle.section.specs.Asked.{Asked}
use Rattle.section.specs.Truths.{TruthsOf}
use Rattle.section.specs.declared.ends.Ends.{Ends}
use Rattle.section.specs.declared.fibre.Fibre.{Fibre}
use Rattle.section.specs.declared.figures.Figure.{Figure}

-- the fibres by position, the load and its depth
pub record Book : Type 0 where
  pub fibres : List Fibre
  pub load : ℤ
  pub depth : ℕ

abbrev pub first_book : Book
first_book = record { fibres = []; load = pos 0; depth = 0 }

abbrev pub refilled : Book → List Fibre → Book
refilled b fibres = record { fibres = fibres; load = b.load; depth = b.depth }

abbrev pub loaded : Book → ℤ → ℕ → Book
loaded b load depth = record { fibres = b.fibres; load = load; depth = depth }

-- ---- figures and their ranges

abbrev pub within : Figure → Bool
within f = int_le f.least f.written && int_le f.written f.most

abbrev pub Within : Figure → Type 0
Within f = T (within f)

-- the depth, the area and the initial strain of a fibre
abbrev pub fibre_figures : ℤ → ℤ → ℤ → List Figure
fibre_figures depth area initial =
    record { least = pos 0; written = depth; most = pos 4096 }
    ∷ record { least = pos 1; written = area; most = pos 2000000 }
    ∷ record { least = neg_ℤ (pos 100000000); written = initial; most = pos 100000000 }
    ∷ []

-- the load and its depth
abbrev pub load_figures : ℤ → ℤ → List Figure
load_figures load depth =
    record { least = neg_ℤ (pos 400000000000000); written = load; most = pos 400000000000000 }
    ∷ record { least = pos 0; written = depth; most = pos 4096 }
    ∷ []

-- refused by a number, with the place of the first figure that is out of range
pub record FigureRefused (number : ℕ) (figures : List Figure) (refusal : Refusal) : Type 0 where
  pub place : ℕ
  pub first : FirstOut Within figures place
  pub says : Says refusal number (pos place ∷ [])

-- ---- put

abbrev pub Room : Book → Type 0
Room b = length b.fibres < 512

-- the fibre of figures that are in range
abbrev pub fibre_of : ℤ → ℤ → ℤ → ℤ → Fibre
fibre_of depth area material initial = record { depth = unsigned_abs depth; area = unsigned_abs area; material = unsigned_abs material; initial = initial }

-- the fibre stands after the others, and its position is answered
pub record PutTaken (laws : List Meaning) (before : Book) (depth area material initial : ℤ) (position : ℕ) (after : Book) : Type 0 where
  pub room : Room before
  pub figures_in : AllByRecursion Within (fibre_figures depth area initial)
  pub law : Meaning
  pub law_is : numbered laws material ≡ Some law
  pub position_is : position ≡ length before.fibres
  pub book_is : after ≡ refilled before (before.fibres ++ fibre_of depth area material initial ∷ [])

-- 6: there are 512 fibres already
abbrev pub Full : Book → Refusal → Type 0
Full before refusal = (512 ≤ length before.fibres) × Says refusal 6 []

-- 7: a figure is out of range
abbrev pub FibreRefused : Book → ℤ → ℤ → ℤ → Refusal → Type 0
FibreRefused before depth area initial refusal = Room before × FigureRefused 7 (fibre_figures depth area initial) refusal

-- 8: no law has the number
abbrev pub MaterialRefused : List Meaning → Book → ℤ → ℤ → ℤ → ℤ → Refusal → Type 0
MaterialRefused laws before depth area material initial refusal =
    Room before × AllByRecursion Within (fibre_figures depth area initial) × NumberRefused laws material refusal

abbrev pub PutRefused : List Meaning → Book → ℤ → ℤ → ℤ → ℤ → Refusal → Type 0
PutRefused laws before depth area material initial refusal =
    Full before refusal ⊎ (FibreRefused before depth area initial refusal ⊎ MaterialRefused laws before depth area material initial refusal)

abbrev pub Put : List Meaning → Book → ℤ → ℤ → ℤ → ℤ → Result ℕ Refusal → Book → Type 0
Put laws before depth area material initial answer after =
    MatchResult answer (λ position. PutTaken laws before depth area material initial position after)
    (λ refusal. PutRefused laws before depth area material initial refusal × (after ≡ before))

-- ---- take

-- a fibre stands at the position
abbrev pub Occupied : Book → ℤ → Type 0
Occupied b position = (pos 0 ≤ℤ position) × (position <ℤ pos (length b.fibres))

-- that fibre is gone, and each after it stands one position lower
pub record Taken (before : Book) (position : ℤ) (after : Book) : Type 0 where
  pub occupied : Occupied before position
  pub book_is : after ≡ refilled before (remove before.fibres (unsigned_abs position))

-- refused by 9 with the position as it was written
pub record TakeRefused (before : Book) (position : ℤ) (refusal : Refusal) : Type 0 where
  pub none : Occupied before position → ⊥
  pub says : Says refusal 9 (position ∷ [])

abbrev pub Take : Book → ℤ → Result (Unit {0}) Refusal → Book → Type 0
Take before position answer after =
    MatchResult answer (λ _. Taken before position after) (λ refusal. TakeRefused before position refusal × (after ≡ before))

-- ---- load

-- the load and its depth are those that were written
pub record Loaded (before : Book) (load depth : ℤ) (after : Book) : Type 0 where
  pub figures_in : AllByRecursion Within (load_figures load depth)
  pub book_is : after ≡ loaded before load (unsigned_abs depth)

abbrev pub Loads : Book → ℤ → ℤ → Result (Unit {0}) Refusal → Book → Type 0
Loads before load depth answer after =
    MatchResult answer (λ _. Loaded before load depth after) (λ refusal. FigureRefused 10 (load_figures load depth) refusal × (after ≡ before))

-- what an ask at a curvature comes to, by the book
abbrev pub AskedOf : List Meaning → Book → ℕ → Result Ends Refusal → Type 0
AskedOf laws book curvature answer = Asked laws book.fibres book.load book.depth curvature answer

-- and what every such ask is true to
abbrev pub TruthsOfBook : List Meaning → Book → ℕ → Type 0
TruthsOfBook laws book curvature = TruthsOf laws book.fibres book.load book.depth curvature
