-- The references that a lane keeps.
use Rattle.std.specs.Prelude.{◌≡◌, ◌≤◌, ◌==◌, ◌+◌, ◌++◌, true, cond, List, [], ◌∷◌}
use Rattle.control_word.specs.plain_state.declared.slot.SlotId.{SlotId}
use Rattle.control_word.specs.plain_state.Lists.{times}
use Rattle.control_word.specs.core_events.Views.{Holds, without}
use Rattle.control_word.specs.counted_handles.Handles.{Handle}
use Rattle.control_word.specs.domain_rule.Views.{object_in}
use Rattle.control_word.specs.acquire_retire.Seats.{SeatState}
use Rattle.weak_intern.specs.directory_calls.Steps.{aside}
use Rattle.words_protocol.specs.words_law.Views.{View}
use Rattle.lane_files.specs.Ready.{Owns}
use Rattle.lane_files.specs.Scans.{scans_of}
pub use Rattle.lane_work.specs.Keeping.{IsSameKeeper, has, slots_of}
use Rattle.lane_work.specs.declared.keeper.Keeper.{Keeper}

-- The reference is kept, where none to its slot was kept for the file; else it was given up.
pub record KeepsOne (handle : Handle) (before after : Keeper) (old new : SeatState View) : Type 0 where
  pub more : List Handle
  pub is : more ≡ cond (has before handle.slot) [] (handle ∷ [])
  pub kept : after.kept.items ≡ before.kept.items ++ more
  pub marks : (s : SlotId) → has after s ≡ cond (handle.slot.0 == s.0) true (has before s)
  pub owns :
      Owns (without handle.slot old.view.core.owned ++ slots_of more) old new

-- The seat has given up these references. What it owns weakly and has beside is as it was, and so is what it knows of
-- the objects that it still holds. It has made no fewer whole scans.
pub record GivesUp (gone : List SlotId) (old new : SeatState View) : Type 0 where
  pub strongly :
      (x : SlotId) → times x new.view.core.owned + times x gone
      ≡ times x old.view.core.owned
  pub weakly : (x : SlotId) → times x new.view.core.weaks ≡ times x old.view.core.weaks
  pub same : aside new.view.core ≡ aside old.view.core
  pub knows :
      (x : SlotId) → Holds old.view.core x → Holds new.view.core x
      → object_in new.view x ≡ object_in old.view x
  pub scans : scans_of old ≤ scans_of new
