-- What a call leaves of a seat.
use Rattle.std.specs.Prelude.{◌≡◌, ◌≤◌, List, [], ◌∷◌, ◌++◌, Option, Some, None, Result, Ok, Err}
use Rattle.queue_protocol.specs.plain_state.declared.slot.SlotId.{SlotId}
use Rattle.queue_protocol.specs.plain_state.Lists.{times}
use Rattle.slot_store.specs.core_events.declared.view.CoreView.{CoreView}
use Rattle.slot_store.specs.core_events.declared.view.Move.{Move}
use Rattle.slot_store.specs.core_events.Views.{Holds, without}
use Rattle.slot_store.specs.counted_handles.Handles.{Handle}
use Rattle.part_calls.specs.atomic_shared.Places.{named}
use Rattle.slot_store.specs.domain_rule.Views.{object_in}
use Rattle.slot_store.specs.acquire_retire.Collecting.{rest_of}
use Rattle.slot_store.specs.acquire_retire.Seats.{SeatState}

-- what a seat has beside the references that it owns strongly, its batch, its dying and ripe slots, and its trail; and
-- beside how many objects it made and how many adds it used
abbrev pub aside : CoreView → CoreView
aside v = record (rest_of v) { owned = []; made = []; adds = 0; makes = 0 }

abbrev pub with_found : Option SlotId → List SlotId → List SlotId
with_found None xs = xs
with_found (Some s) xs = xs ++ s ∷ []

abbrev pub without_found : Option SlotId → List SlotId → List SlotId
without_found None xs = xs
without_found (Some s) xs = without s xs

-- the trail of the seat goes on from what it was
abbrev pub TrailGoesOn : {V : Type 0} → SeatState V → SeatState V → Type 0
TrailGoesOn old new = (ms : List Move) × (new.view.core.trail ≡ old.view.core.trail ++ ms)

-- The seat owns these references, in some order, takes no add back, and its trail goes on. What it has beside is as it
-- was, and so is what it knows of the objects that it held and still holds.
pub record Leaves {V : Type 0} (owned : List SlotId) (old new : SeatState V) : Type 0 where
  pub owns : (x : SlotId) → times x new.view.core.owned ≡ times x owned
  pub same : aside new.view.core ≡ aside old.view.core
  pub adds : old.view.core.adds ≤ new.view.core.adds
  pub trail : TrailGoesOn old new
  pub knows :
      (x : SlotId) → Holds old.view.core x → Holds new.view.core x
      → object_in new.view x ≡ object_in old.view x

-- what a call that answers a reference found; nothing where it was refused
abbrev pub found_by : {E : Type 0} → Result (Option Handle) E → Option SlotId
found_by (Ok found) = named found
found_by (Err error) = None

-- the same of a call that answers a reference where it isn't refused
abbrev pub handle_by : {E : Type 0} → Result Handle E → Option SlotId
handle_by (Ok handle) = Some handle.slot
handle_by (Err error) = None
