-- A reference that is kept, and references that are given up.
use Rattle.std.specs.Prelude.{◌≡◌, ◌==◌, ◌+◌, ◌++◌, List, [], ◌∷◌, cond, true}
use Rattle.cell_intern.specs.cell_calls.Keeping.{Keeps}
use Rattle.cell_intern.specs.cell_calls.cell_law.declared.view.View.{View}
use Rattle.cell_intern.specs.cell_calls.cell_law.plain_state.declared.slot.SlotId.{SlotId}
use Rattle.cell_intern.specs.cell_calls.cell_law.plain_state.Lists.{times}
use Rattle.cell_intern.specs.epoch_refs.epoch_core.core_events.Views.{without}
use Rattle.cell_intern.specs.epoch_refs.epoch_core.Views.{Holds}
use Rattle.cell_intern.specs.epoch_refs.epoch_domain.Seats.{SeatState}
use Rattle.lane_work.specs.Keeping.{has, slots_of}
use Rattle.lane_work.specs.counted_handles.Handles.{Handle}
use Rattle.lane_work.specs.declared.keeper.Keeper.{Keeper}

-- The reference is kept, where none to its slot was kept for the file; else it was given up.
pub record KeepsOne (handle : Handle) (before after : Keeper) (old new : SeatState View)
    : Type 0 where
  pub more : List Handle
  pub is : more ≡ cond (has before handle.slot) [] (handle ∷ [])
  pub kept : after.kept.items ≡ before.kept.items ++ more
  pub marks : (s : SlotId) → has after s ≡ cond (handle.slot.0 == s.0) true (has before s)
  pub keeps :
      Keeps 0 0 (without handle.slot old.view.core.owned ++ slots_of more) old new

-- The seat has given up these references, and nothing else. What it holds it held.
pub record GivesUp (gone : List SlotId) (old new : SeatState View) : Type 0 where
  pub owns :
      (x : SlotId) → times x new.view.core.owned + times x gone
      ≡ times x old.view.core.owned
  pub keeps : Keeps 0 0 new.view.core.owned old new
  pub back : (x : SlotId) → Holds new.view.core x → Holds old.view.core x
