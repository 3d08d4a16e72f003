-- What a call leaves of a seat, beside what it tells of the stack.
use Rattle.std.specs.Prelude.{◌≡◌, ◌≤◌, List, [], ◌∷◌, ◌++◌, Option, Some, None, Result, Ok, Err}
use Rattle.cdrc.specs.plain_state.declared.slot.SlotId.{SlotId}
use Rattle.cdrc.specs.plain_state.Lists.{times}
use Rattle.cdrc.specs.core_events.declared.view.CoreView.{CoreView}
use Rattle.cdrc.specs.core_events.declared.view.Move.{Move}
use Rattle.cdrc.specs.core_events.Views.{Holds}
use Rattle.cdrc.specs.counted_handles.Handles.{Handle}
use Rattle.cdrc.specs.atomic_shared.Places.{named}
use Rattle.cdrc.specs.domain_rule.Views.{object_in}
use Rattle.cdrc.specs.acquire_retire.Collecting.{rest_of}
use Rattle.cdrc.specs.acquire_retire.Seats.{SeatState}
use Rattle.example_stack.specs.Views.{View}

-- what a seat has beside the references that it owns strongly, its batch, its dying and ripe slots,
-- its trail, and how many adds it used
abbrev pub aside : CoreView → CoreView
aside v = record (rest_of v) { owned = []; adds = 0 }

-- the trail of the seat goes on from what it was
abbrev pub TrailGoesOn : SeatState View → SeatState View → Type 0
TrailGoesOn old new = (ms : List Move) × (new.view.core.trail ≡ old.view.core.trail ++ ms)

-- The seat owns these references strongly, in some order, takes no add back, and its trail goes on.
-- What it has beside is as it was, and so is what it knows of the objects that it held and still
-- holds.
pub record Leaves (owned : List SlotId) (old new : SeatState View) : Type 0 where
  pub owns : (x : SlotId) → times x new.view.core.owned ≡ times x owned
  pub same : aside new.view.core ≡ aside old.view.core
  pub adds : old.view.core.adds ≤ new.view.core.adds
  pub trail : TrailGoesOn old new
  pub knows :
      (x : SlotId) → Holds old.view.core x → Holds new.view.core x
      → object_in new.view x ≡ object_in old.view x

abbrev pub with_found : Option SlotId → List SlotId → List SlotId
with_found None xs = xs
with_found (Some s) xs = xs ++ s ∷ []

-- the slot that a call answers a reference to; none where it was refused
abbrev pub found_by : {E : Type 0} → Result (Option Handle) E → Option SlotId
found_by (Ok found) = named found
found_by (Err error) = None
