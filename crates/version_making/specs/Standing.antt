-- Nodes that a seat owns, and what its notes spell from them on.
use Rattle.std.specs.Prelude.{ℕ, Option, Some, None}
use Rattle.map_law.specs.plain_state.declared.slot.SlotId.{SlotId}
use Rattle.map_law.specs.declared.view.Kid.{Kid}
use Rattle.map_law.specs.declared.view.View.{View}
use Rattle.map_law.specs.Views.{In, note}
use Rattle.map_law.specs.Nodes.{IsNode}
use Rattle.map_law.specs.Patterns.{Notes, Pattern, Spells, kid_of}
use Rattle.slot_store.specs.counted_handles.Handles.{Handle}
use Rattle.slot_store.specs.domain_rule.Views.{object_in}
use Rattle.slot_store.specs.acquire_retire.Seats.{SeatState}

-- the node in a slot, as the seat knows it
abbrev pub node_in : SlotId → SeatState View → Kid
node_in s seat = kid_of s (object_in seat.view s)

-- the node of a handle; none where it is null
abbrev pub kid_by : Option Handle → SeatState View → Option Kid
kid_by None seat = None
kid_by (Some handle) seat = Some (node_in handle.slot seat)

-- it is a node, which nobody changes
pub record IsSolid (s : SlotId) (seat : SeatState View) : Type 0 where
  pub node : IsNode (object_in seat.view s).payload
  pub known : In (note s (object_in seat.view s).life) seat.view.client.solid

-- null, or such a node
abbrev pub IsTree : Option Handle → SeatState View → Type 0
IsTree None seat = Unit {0}
IsTree (Some handle) seat = IsSolid handle.slot seat

-- from there on the notes spell this pattern
pub record Stands (handle : Option Handle) (pat : Pattern) (seat : SeatState View) : Type 0 where
  pub tree : IsTree handle seat
  pub spells : Spells seat.view.client (kid_by handle seat) pat

-- the seat has noted that field i of this node holds the node of a handle
abbrev pub HasSide : SlotId → ℕ → Option Handle → SeatState View → Type 0
HasSide s i handle seat =
    Notes seat.view.client s (object_in seat.view s).life i (kid_by handle seat)
