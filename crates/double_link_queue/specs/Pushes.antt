-- What a seat has on its way through a push, and what a push leaves.
use Rattle.std.specs.Prelude.{◌≡◌, ◌+◌, ◌<◌, true, Option, None, Result, Ok, Err}
use Rattle.weak_part_calls.specs.plain_state.declared.slot.SlotId.{SlotId}
use Rattle.weak_part_calls.specs.plain_state.Lists.{times}
use Rattle.weak_part_calls.specs.plain_state.State.{no_payload}
use Rattle.weak_part_calls.specs.core_events.Views.{without}
use Rattle.weak_part_calls.specs.atomic_weak.Places.{named}
use Rattle.weak_part_calls.specs.counted_handles.Handles.{Handle}
use Rattle.weak_part_calls.specs.domain_rule.Views.{object_in}
use Rattle.weak_part_calls.specs.acquire_retire.Seats.{SeatState}
use Rattle.linked_queue.specs.queue_law.declared.view.View.{View}
use Rattle.linked_queue.specs.queue_law.Views.{no_flight}
use Rattle.linked_queue.specs.Pops.{item_in}
use Rattle.linked_queue.specs.Pushes.{HasLoad, SeesTail, pushed_too}
use Rattle.linked_queue.specs.Queues.{beside_eyes, deeds_in}
use Rattle.double_link_queue.specs.Leaving.{LeavesBoth}

-- the seat sees a node that the tail cell held, and has a weak reference to the one before it
pub record SeesBack (last before : SlotId) (seat : SeatState View) : Type 0 where
  pub tail : SeesTail last seat
  pub owns : 0 < times before seat.view.core.weaks
  pub is_before : seat.view.client.eyes.before ≡ before.0 + 1

-- and a strong one
pub record SeesBefore (last before : SlotId) (seat : SeatState View) : Type 0 where
  pub tail : SeesTail last seat
  pub owns : 0 < times before seat.view.core.owned
  pub is_before : seat.view.client.eyes.before ≡ before.0 + 1

-- and it is a node
pub record SeesNodeBefore (last before : SlotId) (seat : SeatState View) : Type 0 where
  pub sees : SeesBefore last before seat
  pub is_node : (object_in seat.view before).payload ≡ no_payload

-- the seat's own node leads back to the node that the tail cell held, and the link of that one's predecessor isn't
-- missing
pub record CanExchange (last node : SlotId) (seat : SeatState View) : Type 0 where
  pub tail : SeesTail last seat
  pub load : HasLoad node seat
  pub helped : seat.view.client.eyes.helped ≡ true
  pub backed : seat.view.client.load.back ≡ last.0 + 1

-- a push of the node behind the last one is in flight, and the seat owns both
pub record IsInFlight (last node : SlotId) (seat : SeatState View) : Type 0 where
  pub owns_last : 0 < times last seat.view.core.owned
  pub owns_node : 0 < times node seat.view.core.owned
  pub at_prev : seat.view.client.flight.prev ≡ last.0 + 1
  pub prev_life : (object_in seat.view last).life ≡ seat.view.client.flight.prev_life
  pub at_node : seat.view.client.flight.node ≡ node.0 + 1
  pub node_life : (object_in seat.view node).life ≡ seat.view.client.flight.life
  pub is_node : (object_in seat.view last).payload ≡ no_payload

-- the view is told at most that there is nothing to help
pub record NotesHelp (v w : View) : Type 0 where
  pub beside : beside_eyes w ≡ beside_eyes v
  pub node : w.eyes.node ≡ v.eyes.node
  pub life : w.eyes.life ≡ v.eyes.life
  pub was_tail : w.eyes.was_tail ≡ v.eyes.was_tail
  pub is_before : w.eyes.before ≡ v.eyes.before

-- what a call that answers a weak reference found; nothing where it was refused
abbrev pub weakly_found_by : {E : Type 0} → Result (Option Handle) E → Option SlotId
weakly_found_by (Ok found) = named found
weakly_found_by (Err error) = None

-- the view once the weak field of the seat's own node leads back to this one
abbrev pub backed_in : SlotId → View → View
backed_in last v = record v { load = record v.load { back = last.0 + 1 } }

-- all of a view but what its seat sees, and where its own node leads back
abbrev pub beside_back : View → View
beside_back v = record (beside_eyes v) { load = record v.load { back = 0 } }

-- the view with no push in flight
abbrev pub landed_in : View → View
landed_in v = record v { flight = no_flight }

-- The seat has given its reference to the item, and has pushed it, as it knows it; no push of its own is in flight.
pub record Pushes (item : SlotId) (old new : SeatState View) : Type 0 where
  pub leaves : LeavesBoth (without item old.view.core.owned) old.view.core.weaks old new
  pub deeds :
      deeds_in new.view.client
      ≡ pushed_too (item_in old item) (landed_in (deeds_in old.view.client))

-- The seat has what it had, and has pushed nothing.
pub record PushesNothing (old new : SeatState View) : Type 0 where
  pub leaves : LeavesBoth old.view.core.owned old.view.core.weaks old new
  pub deeds : deeds_in new.view.client ≡ deeds_in old.view.client
