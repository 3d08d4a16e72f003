-- What joins and changes promise of a tree.
use Rattle.std.specs.Prelude.{◌≡◌, ℕ, suc, ◌≤◌, ◌++◌, ◌∷◌, max}
use Rattle.map_trees.specs.Trees.{Tree, pair, pairs, height, Balanced, Shaped}
use Rattle.map_trees.specs.declared.change.Change.{Change}
use Rattle.map_trees.specs.Maps.{changed}
use Rattle.map_trees.specs.Balance.{altered, join}

-- the join of two subtrees: balanced, as high as the higher one or one level higher, and exactly one level higher where
-- they were balanced beside one another
pub record Joined (l r t : Tree) : Type 0 where
  pub balanced : Balanced t
  pub low : max (height l) (height r) ≤ height t
  pub high : height t ≤ suc (max (height l) (height r))
  pub even : height l ≤ suc (height r) → height r ≤ suc (height l)
      → height t ≡ suc (max (height l) (height r))

-- the pairs of both, with the new one between them
abbrev pub JoinsPairs : ℕ → ℕ → Tree → Tree → Type 0
JoinsPairs k v l r = pairs (join k v l r) ≡ pairs l ++ pair k v ∷ pairs r

-- a change keeps the shape, and makes of the list what it makes of a map
abbrev pub Alters : ℕ → Change → Tree → Type 0
Alters k change t =
    Shaped (altered k change t) × (pairs (altered k change t) ≡ changed k change (pairs t))
