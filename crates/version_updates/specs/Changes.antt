-- A version that was altered, told by patterns.
use Rattle.std.specs.Prelude.{ℕ, ◌≡◌, ◌<◌, ◌^◌, Option}
use Rattle.map_law.specs.plain_state.declared.slot.SlotId.{SlotId}
use Rattle.map_trees.specs.declared.change.Change.{Change}
use Rattle.map_trees.specs.Trees.{Shaped, Tree, height, pairs}
use Rattle.map_trees.specs.Maps.{get}
use Rattle.map_trees.specs.Balance.{altered}
use Rattle.map_law.specs.Patterns.{Fits, Pattern, filled}

-- whatever stands where neither was read: where the old tree is a balanced search tree that is lower than 2^62, the new
-- one is that with the change, and the answer is what the key has in it
abbrev pub IsAltered : Pattern → Pattern → ℕ → Change → Option ℕ → Type 0
IsAltered old new key change answer =
    (trees : SlotId → Tree) → Fits trees old → Shaped (filled trees old)
    → height (filled trees old) < 2 ^ 62
    → Fits trees new × (filled trees new ≡ altered key change (filled trees old))
    × (answer ≡ get key (pairs (filled trees old)))
