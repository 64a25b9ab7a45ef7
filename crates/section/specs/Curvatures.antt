-- Which numbers are taken as a curvature.
use Rattle.std.specs.Prelude.{◌≡◌, ℕ, Ok, Err, Result}
use Rattle.refusal.specs.declared.Refusal.{Refusal}
use Rattle.section.specs.Asked.{TooCurved}
use Rattle.section.specs.declared.curvature.Curvature.{Curvature}

abbrev pub TakesCurvature : ℕ → Result Curvature Refusal → Type 0
TakesCurvature number (Ok curvature) = curvature.number ≡ number
TakesCurvature number (Err refusal) = TooCurved number refusal
