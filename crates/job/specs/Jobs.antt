-- What a command does to the materials of a job, and what is printed.
use Rattle.std.specs.Prelude.{◌≡◌, ℕ, ◌⊎◌, List, [], ◌∷◌, ◌++◌, map, length, ℤ, Some, None, Ok, Err, vec_items, Option, Result, slice_index}
use Rattle.std.specs.Option.{option_map}
use Rattle.std.specs.List.{AllByRecursion}
use Rattle.refusal.specs.Refusals.{Says}
use Rattle.refusal.specs.declared.Refusal.{Refusal}
use Rattle.laws.specs.Meaning.{Meaning}
use Rattle.laws.specs.Points.{PointsTaken, PointsRefused}
use Rattle.laws.specs.declared.point_law.PointLaw.{PointLaw}
use Rattle.kits.specs.Kits.{stress_of, numbered}
use Rattle.kits.specs.Reach.{Reaches}
use Rattle.cards.specs.declared.written.Figures.{Figures}
use Rattle.cards.specs.declared.two_line.TwoLine.{TwoLine}
use Rattle.cards.specs.Figures.{InRange}
use Rattle.cards.specs.Kinds.{figures}
use Rattle.cards.specs.Cards.{Checked, FigureRefused, Reduced, FactorRefused}
use Rattle.words.specs.Words.{WordsOf}
use Rattle.job.specs.Commands.{card_name, Spells}
use Rattle.job.specs.Faults.{Faulty}
use Rattle.job.specs.Materials.{material_law}
use Rattle.job.specs.declared.command.CardLine.{CardLine}
use Rattle.job.specs.declared.command.Command.{Command}
use Rattle.job.specs.declared.command.Command.TheVariants.{Card, Points, Stress, Reach}
use Rattle.job.specs.declared.fault.Fault.{Fault}
use Rattle.job.specs.declared.material.Material.{Material}
use Rattle.job.specs.declared.material.Material.TheVariants.{Card as OfCard, Points as OfPoints}
use Rattle.job.specs.declared.printed.Answer.TheVariants.{Card as CardAnswer, Points as PointsAnswer, Stress as StressAnswer, Reach as ReachAnswer}
use Rattle.job.specs.declared.printed.Printed.{Printed}
use Rattle.job.specs.declared.printed.Printed.TheVariants.{Answered, Refused, Unreadable}

-- the law is that of the card, checked and reduced by its factors
pub record Makes (line : CardLine) (law : TwoLine) : Type 0 where
  pub whole : Figures ℕ
  pub checked : Checked (figures line.card) (figures whole)
  pub in_range : AllByRecursion InRange (figures whole)
  pub reduced : Reduced line.alpha line.gamma whole law

-- a figure is refused, or, where none is, a factor
abbrev pub MakesNone : CardLine → Refusal → Type 0
MakesNone line refusal =
    FigureRefused (figures line.card) refusal
    ⊎ ((whole : Figures ℕ) × Checked (figures line.card) (figures whole) × AllByRecursion InRange (figures whole) × FactorRefused line.alpha line.gamma refusal)

-- what the job's kit means
abbrev pub kit_laws : List Material → List Meaning
kit_laws materials = map material_law materials

abbrev pub StressPrinted : Option ℤ → Printed → Type 0
StressPrinted (Some stress) printed = printed ≡ Answered (StressAnswer stress)
StressPrinted None printed = (refusal : Refusal) × Says refusal 8 [] × (printed ≡ Refused refusal)

abbrev pub reach_line : Result ℤ Refusal → Printed
reach_line (Ok strain) = Answered (ReachAnswer strain)
reach_line (Err refusal) = Refused refusal

-- a material is added at the end and printed with its number, or refused; what is looked up in the kit is printed, or refused
abbrev pub Performed : List Material → Command → Printed → List Material → Type 0
Performed materials (Card line) printed after =
    ((law : TwoLine) × Makes line law × (printed ≡ Answered (CardAnswer (card_name line.card) (length materials) law)) × (after ≡ materials ++ OfCard law ∷ []))
    ⊎ ((refusal : Refusal) × MakesNone line refusal × (printed ≡ Refused refusal) × (after ≡ materials))
Performed materials (Points line) printed after =
    ((law : PointLaw) × PointsTaken (vec_items line.points) line.compression line.tension (vec_items law.points) law.limits × (printed ≡ Answered (PointsAnswer (length materials))) × (after ≡ materials ++ OfPoints law ∷ []))
    ⊎ ((refusal : Refusal) × PointsRefused (vec_items line.points) line.compression line.tension refusal × (printed ≡ Refused refusal) × (after ≡ materials))
Performed materials (Stress number strain) printed after =
    StressPrinted (option_map (stress_of strain) (numbered (kit_laws materials) number)) printed × (after ≡ materials)
Performed materials (Reach number stress) printed after =
    ((answer : Result ℤ Refusal) × Reaches (kit_laws materials) number stress answer × (printed ≡ reach_line answer)) × (after ≡ materials)

-- there is no word, or the first begins with `#`
abbrev pub Remark : List (List ℕ) → Type 0
Remark [] = Unit {0}
Remark (word ∷ words) = slice_index word 0 ≡ 35

-- what the words of a line print: nothing where they are a remark; what the command prints that they are; else what is wrong
abbrev pub WordsPrint : List Material → ℕ → List (List ℕ) → Option Printed → List Material → Type 0
WordsPrint materials number words None after = Remark words × (after ≡ materials)
WordsPrint materials number words (Some printed) after =
    (Remark words → ⊥)
    × (((command : Command) × Spells words command × Performed materials command printed after)
    ⊎ ((fault : Fault) × Faulty words fault × (printed ≡ Unreadable number fault) × (after ≡ materials)))

-- the same of the line's bytes
pub record Prints (materials : List Material) (number : ℕ) (line : List ℕ) (printed : Option Printed) (after : List Material) : Type 0 where
  pub words : List (List ℕ)
  pub cut : WordsOf line words
  pub printing : WordsPrint materials number words printed after
