-- What a walk down a tree knows of it: the nodes on one way, and nothing of what lies beside it.
use Rattle.std.specs.Prelude.{◌≡◌, ℕ, suc, ◌<◌, ◌≤◌, Option, Some, None}
use Rattle.map_trees.specs.Trees.{Tree, leaf, node, Pair, pair}
use Rattle.map_law.specs.declared.view.Kid.{Kid}
use Rattle.map_law.specs.declared.view.View.{View}
use Rattle.map_law.specs.Nodes.{words}
use Rattle.map_law.specs.Patterns.{Notes}

-- a way ends at null, or stops at a node, or goes on from a node to its left or its right subtree; of each node it has
-- the key, the value and the height
pub data Way : Type 0 where
  ends : Way
  stops : ℕ → ℕ → ℕ → Way
  left : ℕ → ℕ → ℕ → Way → Way
  right : ℕ → ℕ → ℕ → Way → Way

-- how many nodes it has
abbrev pub levels : Way → ℕ
levels ends = 0
levels (stops k v h) = 1
levels (left k v h way) = suc (levels way)
levels (right k v h way) = suc (levels way)

-- it leads down this tree
abbrev pub Passes : Way → Tree → Type 0
Passes ends t = t ≡ leaf
Passes (stops k v h) t = (l : Tree) × (r : Tree) × (t ≡ node k v h l r)
Passes (left k v h way) t = (l : Tree) × (r : Tree) × (t ≡ node k v h l r) × Passes way l
Passes (right k v h way) t = (l : Tree) × (r : Tree) × (t ≡ node k v h l r) × Passes way r

-- the notes of a view tell it, from this node on
abbrev pub Tells : View → Option Kid → Way → Type 0
Tells v k ends = k ≡ None
Tells v k (stops key value h) = (x : Kid) × (k ≡ Some x) × (x.payload ≡ words key value h)
Tells v k (left key value h way) =
    (x : Kid) × (k ≡ Some x) × (x.payload ≡ words key value h)
    × ((a : Option Kid) × Notes v x.slot x.life 0 a × Tells v a way)
Tells v k (right key value h way) =
    (x : Kid) × (k ≡ Some x) × (x.payload ≡ words key value h)
    × ((a : Option Kid) × Notes v x.slot x.life 1 a × Tells v a way)

-- A search for the least pair with at least this key goes so, and finds x; `best` is the least such pair above. It
-- stops at the key itself.
abbrev pub Seeks : ℕ → Option Pair → Way → Option Pair → Type 0
Seeks k best ends x = x ≡ best
Seeks k best (stops a d h) x = (a ≡ k) × (x ≡ Some (pair a d))
Seeks k best (left a d h way) x = (k ≤ a) × Seeks k (Some (pair a d)) way x
Seeks k best (right a d h way) x = (a < k) × Seeks k best way x
