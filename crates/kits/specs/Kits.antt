-- The laws of a kit by number.
use Rattle.std.specs.Prelude.{ℕ, min, cond, List, length, ℤ, pos, negsuc, None, Option, nat_lt}
use Rattle.std.specs.Option.{option_map}
use Rattle.std.specs.List.{slice_get}
use Rattle.laws.specs.Meaning.{Meaning}
use Rattle.laws.specs.declared.law.Limits.{Limits}

-- how many laws can be reached: at most 255
abbrev pub counted : List Meaning → ℕ
counted laws = min 255 (length laws)

-- the law of a number, from 0
abbrev pub reached : List Meaning → ℕ → Option Meaning
reached laws number = cond (nat_lt number 255) (slice_get laws number) None

-- the same of a number as a user writes it
abbrev pub numbered : List Meaning → ℤ → Option Meaning
numbered laws (pos number) = reached laws number
numbered laws (negsuc n) = None

abbrev pub stress_of : ℤ → Meaning → ℤ
stress_of strain law = law.stress strain

abbrev pub limits_of : Meaning → Limits
limits_of law = record { compression = law.compression; tension = law.tension }

abbrev pub stress_at : List Meaning → ℕ → ℤ → Option ℤ
stress_at laws number strain = option_map (stress_of strain) (reached laws number)

abbrev pub limits_at : List Meaning → ℕ → Option Limits
limits_at laws number = option_map limits_of (reached laws number)
