-- The word that begins each command, and how the command is written.
use Rattle.std.specs.Prelude.{ℕ, List, codes}
use Rattle.job.specs.declared.command.Name.{Name}
use Rattle.job.specs.declared.command.Name.TheVariants.{Uhpc, Deck, Steel, Points, Stress, Reach}

abbrev pub spelling : Name → List ℕ
spelling Uhpc = codes "uhpc"
spelling Deck = codes "deck"
spelling Steel = codes "steel"
spelling Points = codes "points"
spelling Stress = codes "stress"
spelling Reach = codes "reach"

abbrev pub form : Name → List ℕ
form Uhpc = codes "expected uhpc MODULUS STRENGTH CRACKING ULTIMATE LOCALIZATION ALPHA GAMMA"
form Deck = codes "expected deck MODULUS STRENGTH ULTIMATE ALPHA GAMMA"
form Steel = codes "expected steel MODULUS YIELD RUPTURE ALPHA GAMMA"
form Points = codes "expected points COMPRESSION TENSION and then STRAIN STRESS for each point"
form Stress = codes "expected stress NUMBER STRAIN"
form Reach = codes "expected reach NUMBER STRESS"
