-- How a search goes on from a node, and by which word it holds the next one.
use Rattle.std.specs.Prelude.{ℕ, ◌≡◌, ◌⊎◌, ◌<◌, ◌==◌, Option, Some, None, if◌then◌else◌}
use Rattle.map_trees.specs.Trees.{Pair, pair}

-- to the left of a node whose key is greater, which has the least pair by then, and to the right of one whose key is
-- less
abbrev pub Turns : ℕ → ℕ → ℕ → Option Pair → ℕ → Option Pair → Type 0
Turns key found value best side least =
    ((side ≡ 0) × (key < found) × (least ≡ Some (pair found value)))
    ⊎ ((side ≡ 1) × (found < key) × (least ≡ best))

-- word 0, and the free one after it
abbrev pub next_word : Option ℕ → ℕ → ℕ
next_word None free = 0
next_word (Some j) free = if j == 0 then free else 0
