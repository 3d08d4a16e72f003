-- What the command line asks for.
use Rattle.std.specs.Prelude.{ℕ, ◌≡◌, List, [], ◌∷◌, ◌++◌, codes}
use Rattle.turn_loops.specs.declared.placing.Placing.{Placing}
use Rattle.turn_loops.specs.declared.placing.Placing.TheVariants.{Neighbours, Spaced}

-- the words that ask for a placing
abbrev pub options_for : Placing → List (List ℕ)
options_for Spaced = []
options_for Neighbours = codes "--neighbours" ∷ []

-- before the number of threads stand the words for this placing, and nothing else
abbrev pub Asks : List (List ℕ) → Placing → Type 0
Asks line placing = (number : List ℕ) × (line ≡ options_for placing ++ number ∷ [])
