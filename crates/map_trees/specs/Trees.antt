-- Trees with a key, a value and a height at each node, and the list of pairs that a tree has.
use Rattle.std.specs.Prelude.{◌≡◌, ℕ, suc, ◌<◌, ◌≤◌, List, [], ◌∷◌, ◌++◌, max}

-- a node is its key, its value, the height that it keeps, and its two subtrees
pub data Tree : Type 0 where
  leaf : Tree
  node : ℕ → ℕ → ℕ → Tree → Tree → Tree

-- a key and its value
pub record Pair : Type 0 where
  pub key : ℕ
  pub value : ℕ

abbrev pub pair : ℕ → ℕ → Pair
pair k v = record { key = k; value = v }

-- the pairs of a tree, from the left to the right
abbrev pub pairs : Tree → List Pair
pairs leaf = []
pairs (node k v h l r) = pairs l ++ pair k v ∷ pairs r

-- the height that the root keeps
abbrev pub height : Tree → ℕ
height leaf = 0
height (node k v h l r) = h

-- how many nodes the longest way down has
abbrev pub depth : Tree → ℕ
depth leaf = 0
depth (node k v h l r) = suc (max (depth l) (depth r))

-- each kept height is 1 plus the larger one of the subtrees', and these differ by at most 1
abbrev pub Balanced : Tree → Type 0
Balanced leaf = Unit {0}
Balanced (node k v h l r) =
    (h ≡ suc (max (height l) (height r))) × (height l ≤ suc (height r))
    × (height r ≤ suc (height l)) × Balanced l × Balanced r

-- all keys of a list are below n, or above it
abbrev pub AllBelow : ℕ → List Pair → Type 0
AllBelow n [] = Unit {0}
AllBelow n (x ∷ xs) = (x.key < n) × AllBelow n xs

abbrev pub AllAbove : ℕ → List Pair → Type 0
AllAbove n [] = Unit {0}
AllAbove n (x ∷ xs) = (n < x.key) × AllAbove n xs

-- each key is above those before it
abbrev pub Ascends : List Pair → Type 0
Ascends [] = Unit {0}
Ascends (x ∷ xs) = AllAbove x.key xs × Ascends xs

-- a search tree that is balanced
abbrev pub Shaped : Tree → Type 0
Shaped t = Ascends (pairs t) × Balanced t
