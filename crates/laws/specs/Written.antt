-- How limits are written.
use Rattle.std.specs.Prelude.{ℕ, List, ◌++◌, codes, decimal}
use Rattle.laws.specs.declared.law.Limits.{Limits}

-- compression, then tension, one space between
abbrev pub limits_line : Limits → List ℕ
limits_line limits = decimal limits.compression ++ (codes " " ++ decimal limits.tension)
