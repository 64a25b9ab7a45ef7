-- Why words are no command, and how that is said.
use Rattle.std.specs.Prelude.{◌≡◌, ℕ, ◌+◌, List, [], ◌∷◌, ◌++◌, length, take, drop, Some, None, codes, decimal, Option, Result, MatchResult, FitsSigned, ◌≢◌, slice_index_or}
use Rattle.std.specs.Int.{w32}
use Rattle.std.specs.Str.Parse.{signed_digits_value}
use Rattle.std.specs.List.{AllByRecursion}
use Rattle.refusal.specs.First.{FirstOut}
use Rattle.job.specs.Numbers.{IsReal, IsWhole}
use Rattle.job.specs.Forms.{spelling, form}
use Rattle.job.specs.Commands.{real_count, Takes}
use Rattle.job.specs.declared.command.Name.{Name}
use Rattle.job.specs.declared.command.Name.TheVariants.{Uhpc, Deck, Steel, Points, Stress, Reach}
use Rattle.job.specs.declared.fault.Fault.{Fault}
use Rattle.job.specs.declared.fault.Fault.TheVariants.{Unknown, Form, NotReal, NotWhole, NotNarrow}
use Rattle.job.specs.declared.fault.Unread.{Unread}
use Rattle.job.specs.declared.fault.Unread.TheVariants.{Fault as AtFault, Memory}

-- a command that always takes so many numbers of f64's parse and then so many whole ones
pub record Fixed (name : Name) (r w : ℕ) : Type 0 where
  pub reals_are : r ≡ real_count name
  pub taken : (n : ℕ) → Takes name n → n ≡ r + w
  pub given : (n : ℕ) → n ≡ r + w → Takes name n

-- the commands whose second number has 32 bits: a strain, a stress
abbrev pub Narrow : Name → Type 0
Narrow Uhpc = ⊥
Narrow Deck = ⊥
Narrow Steel = ⊥
Narrow Points = ⊥
Narrow Stress = Unit {0}
Narrow Reach = Unit {0}

-- the first word names the command, and what follows it is at fault
abbrev pub Misses : Name → List (List ℕ) → Fault → Type 0
Misses name arguments Unknown = ⊥
Misses name arguments (Form n) = (n ≡ name) × (Takes name (length arguments) → ⊥)
Misses name arguments (NotReal place) = Takes name (length arguments) × FirstOut IsReal (take (real_count name) arguments) place
Misses name arguments (NotWhole place) =
    Takes name (length arguments) × AllByRecursion IsReal (take (real_count name) arguments)
    × ((p : ℕ) × (place ≡ real_count name + p) × FirstOut IsWhole (drop (real_count name) arguments) p)
Misses name arguments (NotNarrow place) =
    Takes name (length arguments) × AllByRecursion IsReal (take (real_count name) arguments) × AllByRecursion IsWhole (drop (real_count name) arguments)
    × Narrow name × (place ≡ 1) × (FitsSigned w32 (signed_digits_value 10 (slice_index_or arguments 1 [])) → ⊥)

-- what is wrong with words that are no command
abbrev pub Faulty : List (List ℕ) → Fault → Type 0
Faulty [] fault = fault ≡ Unknown
Faulty (word ∷ arguments) Unknown = (name : Name) → word ≢ spelling name
Faulty (word ∷ arguments) (Form n) = (name : Name) × (word ≡ spelling name) × Misses name arguments (Form n)
Faulty (word ∷ arguments) (NotReal place) = (name : Name) × (word ≡ spelling name) × Misses name arguments (NotReal place)
Faulty (word ∷ arguments) (NotWhole place) = (name : Name) × (word ≡ spelling name) × Misses name arguments (NotWhole place)
Faulty (word ∷ arguments) (NotNarrow place) = (name : Name) × (word ≡ spelling name) × Misses name arguments (NotNarrow place)

-- the fault is one of these, unless memory ran out
abbrev pub UnreadBy : (Fault → Type 0) → Unread → Type 0
UnreadBy P (AtFault fault) = P fault
UnreadBy P (Memory error) = Unit {0}

-- where memory ran out, this holds
abbrev pub WantedIn : Type 0 → Unread → Type 0
WantedIn P (AtFault fault) = Unit {0}
WantedIn P (Memory error) = P

-- the words begin as a line of points does: of all lines these alone want memory to be read
abbrev pub ForPoints : List (List ℕ) → Type 0
ForPoints words = slice_index_or words 0 [] ≡ spelling Points

-- the text is the word of a command, or that of none
abbrev pub NamesCommand : List ℕ → Result Name Fault → Type 0
NamesCommand text r = MatchResult r (λ name. text ≡ spelling name) (λ fault. (fault ≡ Unknown) × ((name : Name) → text ≢ spelling name))

-- the place that a fault names, if it names one
abbrev pub place : Fault → Option ℕ
place Unknown = None
place (Form name) = None
place (NotReal p) = Some p
place (NotWhole p) = Some p
place (NotNarrow p) = Some p

abbrev pub text : Fault → List ℕ
text Unknown = codes "no such command"
text (Form name) = form name
text (NotReal p) = codes "is not a number"
text (NotWhole p) = codes "is not a whole number of 64 bits"
text (NotNarrow p) = codes "is not a whole number of 32 bits"

abbrev pub worded : Option ℕ → List ℕ → List ℕ
worded None t = t
worded (Some p) t = codes "place " ++ (decimal p ++ (codes " " ++ t))

-- the few words that are printed
abbrev pub words : Fault → List ℕ
words fault = worded (place fault) (text fault)
