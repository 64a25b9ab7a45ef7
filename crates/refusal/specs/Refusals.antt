-- The number of each refusal, the places that it names, and the line that it prints.
use Rattle.std.specs.Prelude.{◌≡◌, ℕ, List, [], ◌∷◌, ◌++◌, ℤ, pos, codes}
use Rattle.std.specs.Fmt.{signed_decimal}
use Rattle.refusal.specs.declared.Refusal.{Refusal}
use Rattle.refusal.specs.declared.Refusal.TheVariants.{CardFigure, Factor, PointLawForm, LawPoint, OutOfTurn, FullSection, FibreFigure, NoLaw, NoFibre, LoadFigure, TooCurved, EmptySection, NoneAdmitted, Crushed, Parted, OutOfReach}
use Rattle.refusal.specs.declared.Places.{Places}
use Rattle.refusal.specs.declared.Places.TheVariants.{Nowhere, One, Two}

abbrev pub number : Refusal → ℕ
number (CardFigure figure) = 1
number (Factor factor) = 2
number PointLawForm = 3
number (LawPoint point) = 4
number OutOfTurn = 5
number FullSection = 6
number (FibreFigure figure) = 7
number NoLaw = 8
number (NoFibre position) = 9
number (LoadFigure figure) = 10
number TooCurved = 11
number EmptySection = 12
number (NoneAdmitted compressed stretched) = 13
number (Crushed fibre) = 14
number (Parted fibre) = 15
number OutOfReach = 16

abbrev pub places : Refusal → List ℤ
places (CardFigure figure) = pos figure ∷ []
places (Factor factor) = pos factor ∷ []
places PointLawForm = []
places (LawPoint point) = pos point ∷ []
places OutOfTurn = []
places FullSection = []
places (FibreFigure figure) = pos figure ∷ []
places NoLaw = []
places (NoFibre position) = position ∷ []
places (LoadFigure figure) = pos figure ∷ []
places TooCurved = []
places EmptySection = []
places (NoneAdmitted compressed stretched) = pos compressed ∷ pos stretched ∷ []
places (Crushed fibre) = pos fibre ∷ []
places (Parted fibre) = pos fibre ∷ []
places OutOfReach = []

-- what a refusal says: its number and its places
pub record Says (r : Refusal) (n : ℕ) (ps : List ℤ) : Type 0 where
  pub number_is : number r ≡ n
  pub places_are : places r ≡ ps

-- the places that the code's own list holds
abbrev pub listed : Places → List ℤ
listed Nowhere = []
listed (One place) = place ∷ []
listed (Two first second) = first ∷ second ∷ []

-- each number after a space
abbrev pub spaced : List ℤ → List ℕ
spaced [] = []
spaced (n ∷ ns) = 32 ∷ (signed_decimal n ++ spaced ns)

-- R, the number, then the places, one space between
abbrev pub line : Refusal → List ℕ
line r = codes "R" ++ spaced (pos (number r) ∷ places r)

abbrev pub sentence : Refusal → List ℕ
sentence (CardFigure figure) = codes "a figure of the card is not a number or lies outside its range; the place counts the figures from 0"
sentence (Factor factor) = codes "a factor lies outside 1 to 850 thousandths; place 0 is alpha, place 1 is gamma"
sentence PointLawForm = codes "a point law has 2 to 16 points, and limits of 1 to 100,000,000 nano each"
sentence (LawPoint point) = codes "a point of the law lies outside its range or out of order; the place counts the points from 0"
sentence OutOfTurn = codes "the state of the section does not allow the call"
sentence FullSection = codes "the section has 512 fibres already"
sentence (FibreFigure figure) = codes "a figure of the fibre lies outside its range; place 0 is the depth, place 1 the area, place 2 the initial strain"
sentence NoLaw = codes "no material has that number"
sentence (NoFibre position) = codes "no fibre stands at that position; the place is the position as written"
sentence (LoadFigure figure) = codes "a figure of the load lies outside its range; place 0 is the load, place 1 its depth"
sentence TooCurved = codes "the curvature lies above 65,535"
sentence EmptySection = codes "the section has no fibre"
sentence (NoneAdmitted compressed stretched) = codes "the limits admit no top strain; the places are the fibre whose compression limit sets the least and the fibre whose tension limit sets the greatest, counted from 0"
sentence (Crushed fibre) = codes "the force at the least admitted top strain is above the load; the place is the fibre whose compression limit sets it, counted from 0"
sentence (Parted fibre) = codes "the force at the greatest admitted top strain is below the load; the place is the fibre whose tension limit sets it, counted from 0"
sentence OutOfReach = codes "no strain within the limits of the material reaches that stress"
