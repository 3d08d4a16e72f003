-- What a call leaves of a seat that counts weak references on its way.
use Rattle.std.specs.Prelude.{◌≡◌, ◌≤◌, List, []}
use Rattle.weak_part_calls.specs.plain_state.declared.slot.SlotId.{SlotId}
use Rattle.weak_part_calls.specs.plain_state.Lists.{times}
use Rattle.weak_part_calls.specs.core_events.declared.view.CoreView.{CoreView}
use Rattle.weak_part_calls.specs.core_events.Views.{Holds}
use Rattle.weak_part_calls.specs.domain_rule.Views.{object_in}
use Rattle.weak_part_calls.specs.acquire_retire.Seats.{SeatState}
use Rattle.linked_queue.specs.Leaving.{TrailGoesOn, aside}

-- what a seat has beside the references that it owns, strongly or weakly, and beside what `aside` leaves out
abbrev pub apart : CoreView → CoreView
apart v = record (aside v) { weaks = [] }

-- The seat owns these references strongly and these weakly, each in some order, takes no add back, and its trail goes
-- on. What it has beside is as it was, and so is what it knows of the objects that it held and still holds.
pub record LeavesBoth {V : Type 0} (owned weaks : List SlotId) (old new : SeatState V) : Type 0
  where
    pub owns : (x : SlotId) → times x new.view.core.owned ≡ times x owned
    pub weakly : (x : SlotId) → times x new.view.core.weaks ≡ times x weaks
    pub same : apart new.view.core ≡ apart old.view.core
    pub adds : old.view.core.adds ≤ new.view.core.adds
    pub trail : TrailGoesOn old new
    pub knows :
        (x : SlotId) → Holds old.view.core x → Holds new.view.core x
        → object_in new.view x ≡ object_in old.view x
