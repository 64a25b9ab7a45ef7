-- The figures of each kind of card, in their order.
use Rattle.std.specs.Prelude.{List, [], ◌∷◌, map, Float}
use Rattle.cards.specs.declared.figures.Figure.{Figure}
use Rattle.cards.specs.declared.figures.Figure.TheVariants.{Modulus, UhpcStrength, Cracking, Strain, Localization, DeckStrength, Yielding}
use Rattle.cards.specs.declared.written.UhpcFigures.{UhpcFigures}
use Rattle.cards.specs.declared.written.DeckFigures.{DeckFigures}
use Rattle.cards.specs.declared.written.SteelFigures.{SteelFigures}
use Rattle.cards.specs.declared.written.Figures.{Figures}
use Rattle.cards.specs.declared.written.Figures.TheVariants.{Uhpc, Deck, Steel}

module _ {N : Type 0} where
  abbrev pub uhpc_figures : UhpcFigures N → List (Figure × N)
  uhpc_figures f = (Modulus, f.modulus) ∷ (UhpcStrength, f.strength) ∷ (Cracking, f.cracking) ∷ (Strain, f.ultimate) ∷ (Localization, f.localization) ∷ []

  abbrev pub deck_figures : DeckFigures N → List (Figure × N)
  deck_figures f = (Modulus, f.modulus) ∷ (DeckStrength, f.strength) ∷ (Strain, f.ultimate) ∷ []

  abbrev pub steel_figures : SteelFigures N → List (Figure × N)
  steel_figures f = (Modulus, f.modulus) ∷ (Yielding, f.yielding) ∷ (Strain, f.rupture) ∷ []

  -- the figures of a card, in their order
  abbrev pub figures : Figures N → List (Figure × N)
  figures (Uhpc f) = uhpc_figures f
  figures (Deck f) = deck_figures f
  figures (Steel f) = steel_figures f

  -- the same, as numbers alone
  abbrev pub numbers : List (Figure × N) → List N
  numbers fs = map (λ f. f.1) fs

  abbrev pub uhpc_numbers : UhpcFigures N → List N
  uhpc_numbers f = numbers (uhpc_figures f)

  abbrev pub deck_numbers : DeckFigures N → List N
  deck_numbers f = numbers (deck_figures f)

  abbrev pub steel_numbers : SteelFigures N → List N
  steel_numbers f = numbers (steel_figures f)

-- as an engineer writes it
abbrev pub WrittenCard : Type 0
WrittenCard = Figures Float
