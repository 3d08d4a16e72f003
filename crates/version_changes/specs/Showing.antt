-- How much of a subtree a pattern shows.
use Rattle.std.specs.Prelude.{ℕ, ◌<◌, suc, max, Option}
use Rattle.map_law.specs.plain_state.declared.slot.SlotId.{SlotId}
use Rattle.map_trees.specs.Trees.{Tree, height}
use Rattle.map_law.specs.declared.view.View.{View}
use Rattle.map_law.specs.Patterns.{Pattern, Spells, branch, hole, null}
use Rattle.map_law.specs.Plans.{height_of}
use Rattle.slot_store.specs.counted_handles.Handles.{Handle}
use Rattle.slot_store.specs.acquire_retire.Seats.{SeatState}
use Rattle.version_making.specs.Standing.{kid_by}

-- it shows its root
abbrev pub ShowsRoot : Pattern → Type 0
ShowsRoot null = ⊥
ShowsRoot (hole s h) = ⊥
ShowsRoot (branch k v h l r) = Unit {0}

-- it shows its root, and that of the higher one of both subtrees, if one is higher: all that a join asks for
abbrev pub ShowsTop : Pattern → Type 0
ShowsTop null = ⊥
ShowsTop (hole s h) = ⊥
ShowsTop (branch k v h l r) =
    (height_of l < height_of r → ShowsRoot r) × (height_of r < height_of l → ShowsRoot l)

-- how many nodes its longest way down has, as far as it shows them
abbrev pub most_nodes : Pattern → ℕ
most_nodes null = 0
most_nodes (hole s h) = 1
most_nodes (branch k v h l r) = suc (max (most_nodes l) (most_nodes r))

-- in each hole of it stands a node
abbrev pub HasNodes : (SlotId → Tree) → Pattern → Type 0
HasNodes trees null = Unit {0}
HasNodes trees (hole s h) = 0 < height (trees s)
HasNodes trees (branch k v h l r) = HasNodes trees l × HasNodes trees r

-- the notes spell a way down from this tree on that has more nodes
pub record IsLonger (tree : Option Handle) (levels : ℕ) (old new : SeatState View) : Type 0 where
  pub pattern : Pattern
  pub spells : Spells new.view.client (kid_by tree old) pattern
  pub longer : levels < most_nodes pattern

-- what the notes spell of a subtree shows its top
pub record IsSeen (tree : Option Handle) (old new : SeatState View) : Type 0 where
  pub pattern : Pattern
  pub spells : Spells new.view.client (kid_by tree old) pattern
  pub top : ShowsTop pattern

-- the notes spell of a subtree null, or its root over what they spell of its subtrees
pub record IsRead (tree : Option Handle) (old new : SeatState View) : Type 0 where
  pub pattern : Pattern
  pub spells : Spells new.view.client (kid_by tree old) pattern
  pub root : 0 < height_of pattern → ShowsRoot pattern
