-- The number and the places of a refusal determine it.
use Rattle.std.proofs.Common.{◌≡◌, ℕ, List, [], ◌∷◌, get_or, ℤ, pos, nat_abs, sym, refl, ◌∙◌, ap₂}
use Rattle.refusal.specs.Refusals.{number, places, Says}
use Rattle.refusal.specs.declared.Refusal.{Refusal}
use Rattle.refusal.specs.declared.Refusal.TheVariants.{CardFigure, Factor, PointLawForm, LawPoint, OutOfTurn, FullSection, FibreFigure, NoLaw, NoFibre, LoadFigure, TooCurved, EmptySection, NoneAdmitted, Crushed, Parted, OutOfReach}

-- the place of a number, counted from 0
abbrev place : List ℤ → ℕ → ℕ
place ps i = nat_abs (get_or ps i (pos 0))

-- the refusal with a number, in the order of the numbers, and with places; a number or a place that none has goes to some refusal
abbrev refused : ℕ → List ℤ → Refusal
refused n ps =
    get_or (OutOfReach ∷ CardFigure (place ps 0) ∷ Factor (place ps 0) ∷ PointLawForm ∷ LawPoint (place ps 0) ∷ OutOfTurn ∷ FullSection ∷ FibreFigure (place ps 0)
    ∷ NoLaw ∷ NoFibre (get_or ps 0 (pos 0)) ∷ LoadFigure (place ps 0) ∷ TooCurved ∷ EmptySection ∷ NoneAdmitted (place ps 0) (place ps 1)
    ∷ Crushed (place ps 0) ∷ Parted (place ps 0) ∷ OutOfReach ∷ []) n OutOfReach

refused_again : (r : Refusal) → refused (number r) (places r) ≡ r
refused_again (CardFigure figure) = refl
refused_again (Factor factor) = refl
refused_again PointLawForm = refl
refused_again (LawPoint point) = refl
refused_again OutOfTurn = refl
refused_again FullSection = refl
refused_again (FibreFigure figure) = refl
refused_again NoLaw = refl
refused_again (NoFibre position) = refl
refused_again (LoadFigure figure) = refl
refused_again TooCurved = refl
refused_again EmptySection = refl
refused_again (NoneAdmitted compressed stretched) = refl
refused_again (Crushed fibre) = refl
refused_again (Parted fibre) = refl
refused_again OutOfReach = refl

refused_says : (r : Refusal) (n : ℕ) (ps : List ℤ) → Says r n ps → r ≡ refused n ps
refused_says r n ps h = sym (refused_again r) ∙ ap₂ refused h.number_is h.places_are

pub says_once : (r s : Refusal) (n : ℕ) (ps : List ℤ) → Says r n ps → Says s n ps → r ≡ s
says_once r s n ps h k = refused_says r n ps h ∙ sym (refused_says s n ps k)
