-- What a push does that tries again until no other seat is quicker.
use Rattle.std.specs.Prelude.{ℕ, ◌≡◌, List}
use Rattle.weak_part_calls.specs.plain_state.declared.slot.SlotId.{SlotId}
use Rattle.weak_part_calls.specs.acquire_retire.Domains.{DomainState}
use Rattle.weak_part_calls.specs.acquire_retire.Seats.{SeatState}
use Rattle.weak_part_calls.specs.control_word.Calls.{DropsStrong}
use Rattle.linked_queue.specs.queue_law.declared.view.View.{View}
use Rattle.linked_queue.specs.queue_protocol.declared.law.QueueLaw.{QueueLaw}
use Rattle.linked_queue.specs.Pushes.{LoadsNode}
use Rattle.double_link_queue.specs.Leaving.{LeavesBoth}
use Rattle.double_link_queue.specs.Pushes.{beside_back}
use Rattle.double_link_queue.specs.Steps.{Lands, LosesLast, TakesLast}

-- A try pushed nothing: the seat has what it had, and of its view all is as it was but what it sees, and where its own
-- node leads back.
pub record TriesNothing (old new : SeatState View) : Type 0 where
  pub leaves : LeavesBoth old.view.core.owned old.view.core.weaks old new
  pub beside : beside_back new.view.client ≡ beside_back old.view.client

module _ (fits : List ℕ → Type 0) (d : DomainState QueueLaw) where
  -- a try to push some node was lost
  abbrev pub LosesAnyNode : ℕ → ℕ → SeatState View → SeatState View → Type 0
  LosesAnyNode seen now old new = (node : SlotId) × LosesLast fits d node seen now old new

  -- Its tries pushed nothing, and at the last one it took the tail cell.
  pub record TakesAtLast (last node : SlotId) (old new : SeatState View) : Type 0 where
    pub before : SeatState View
    pub lost : TriesNothing old before
    pub takes : TakesLast fits d last node before new

  -- It did so, landed, and gave the node before up.
  pub record PushesNodeAtLast (node : SlotId) (old new : SeatState View) : Type 0 where
    pub last : SlotId
    pub taken : SeatState View
    pub landed : SeatState View
    pub takes : TakesAtLast last node old taken
    pub lands : Lands fits d last node taken landed
    pub drops : DropsStrong fits d last landed new

  -- It did so with one node, which carries a reference of its own to the item, and gave up the reference that it was
  -- called with.
  pub record PushesAtLast (item : SlotId) (old new : SeatState View) : Type 0 where
    pub node : SlotId
    pub loaded : SeatState View
    pub pushed : SeatState View
    pub loads : LoadsNode fits d item node old loaded
    pub pushes : PushesNodeAtLast node loaded pushed
    pub drops : DropsStrong fits d item pushed new
