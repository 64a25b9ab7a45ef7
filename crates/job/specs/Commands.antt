-- How a command is written: its word, then numbers as f64's parse takes them, then whole numbers.
use Rattle.std.specs.Prelude.{◌≡◌, ℕ, ◌%◌, ◌≤◌, List, [], ◌∷◌, map, take, drop, ℤ, vec_items, Float}
use Rattle.laws.specs.declared.point.Point.{Point}
use Rattle.cards.specs.declared.written.Figures.TheVariants.{Uhpc as UhpcCard, Deck as DeckCard, Steel as SteelCard}
use Rattle.cards.specs.Kinds.{WrittenCard, figures}
use Rattle.job.specs.Forms.{spelling}
use Rattle.job.specs.Numbers.{Real, Whole, Pairwise}
use Rattle.job.specs.declared.command.Command.{Command}
use Rattle.job.specs.declared.command.Command.TheVariants.{Card, Points as PointsOf, Stress as StressOf, Reach as ReachOf}
use Rattle.job.specs.declared.command.Name.{Name}
use Rattle.job.specs.declared.command.Name.TheVariants.{Uhpc, Deck, Steel, Points, Stress, Reach}

-- how many numbers of f64's parse follow the word, before the whole numbers
abbrev pub real_count : Name → ℕ
real_count Uhpc = 5
real_count Deck = 3
real_count Steel = 3
real_count Points = 0
real_count Stress = 0
real_count Reach = 0

-- how many numbers a command takes; points take two limits and two numbers for each point
abbrev pub Takes : Name → ℕ → Type 0
Takes Uhpc n = n ≡ 7
Takes Deck n = n ≡ 5
Takes Steel n = n ≡ 5
Takes Points n = (2 ≤ n) × (n % 2 ≡ 0)
Takes Stress n = n ≡ 2
Takes Reach n = n ≡ 2

abbrev pub card_name : WrittenCard → Name
card_name (UhpcCard f) = Uhpc
card_name (DeckCard f) = Deck
card_name (SteelCard f) = Steel

abbrev pub name : Command → Name
name (Card line) = card_name line.card
name (PointsOf line) = Points
name (StressOf number strain) = Stress
name (ReachOf number stress) = Reach

-- the strain and the stress of each point
abbrev pub written_points : List Point → List ℤ
written_points [] = []
written_points (p ∷ ps) = p.strain ∷ p.stress ∷ written_points ps

-- the numbers of a command, in the order in which they are written
abbrev pub reals : Command → List Float
reals (Card line) = map (λ f. f.1) (figures line.card)
reals (PointsOf line) = []
reals (StressOf number strain) = []
reals (ReachOf number stress) = []

abbrev pub wholes : Command → List ℤ
wholes (Card line) = line.alpha ∷ line.gamma ∷ []
wholes (PointsOf line) = line.compression ∷ line.tension ∷ written_points (vec_items line.points)
wholes (StressOf number strain) = number ∷ strain ∷ []
wholes (ReachOf number stress) = number ∷ stress ∷ []

-- the words after the first are the numbers of the command
pub record Numbers (arguments : List (List ℕ)) (command : Command) : Type 0 where
  pub real_part : Pairwise Real (take (real_count (name command)) arguments) (reals command)
  pub whole_part : Pairwise Whole (drop (real_count (name command)) arguments) (wholes command)

-- the words are the command
abbrev pub Spells : List (List ℕ) → Command → Type 0
Spells [] command = ⊥
Spells (word ∷ arguments) command = (word ≡ spelling (name command)) × Numbers arguments command
