-- The references that a lane keeps.
use Rattle.std.specs.Prelude.{◌≡◌, ◌==◌, ◌++◌, Bool, true, cond, List, [], ◌∷◌, map, Option, Some, None}
use Rattle.std.specs.HashSet.{contains_by}
use Rattle.plain_state.specs.declared.slot.SlotId.{SlotId}
use Rattle.counted_handles.specs.Handles.{Handle}
use Rattle.lane_work.specs.declared.keeper.Keeper.{Keeper}

-- the slots of some references
abbrev pub slots_of : List Handle → List SlotId
slots_of handles = map (λ (h : Handle). h.slot) handles

-- one to this slot is kept for the present file
unfoldable pub has : Keeper → SlotId → Bool
has k s = contains_by (λ n. s.0 == n) k.in_file

-- it keeps what it kept, and has the same slots for the present file
pub record IsSameKeeper (before after : Keeper) : Type 0 where
  pub kept : after.kept.items ≡ before.kept.items
  pub same : (s : SlotId) → has after s ≡ has before s

-- The reference is kept, where none to its slot was kept for the file; else it comes back.
pub record Admits (handle : Handle) (back : Option Handle) (before after : Keeper) : Type 0 where
  pub gives : back ≡ cond (has before handle.slot) (Some handle) None
  pub kept :
      after.kept.items
      ≡ before.kept.items ++ cond (has before handle.slot) [] (handle ∷ [])
  pub marks : (s : SlotId) → has after s ≡ cond (handle.slot.0 == s.0) true (has before s)
