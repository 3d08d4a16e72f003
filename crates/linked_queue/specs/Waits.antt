-- What calls do that try again until no other seat is quicker.
use Rattle.linked_queue.specs.Queues.{beside_eyes}
use Rattle.linked_queue.specs.Nodes.{HasFewAdds}
use Rattle.linked_queue.specs.Pushes.{Advances, LinksLast, LoadsNode}
use Rattle.linked_queue.specs.PushLosses.{LosesLast}
use Rattle.slot_store.specs.declared.making.MakeError.{MakeError}
use Rattle.slot_store.specs.declared.making.MakeError.TheVariants as refused
use Rattle.slot_store.specs.control_word.Calls.{DropsStrong}
use Rattle.slot_store.specs.control_word.Resting.{IsSpent}
use Rattle.slot_store.specs.Calls.{HasNoMake}
use Rattle.slot_store.specs.Searching.{Misses as MissesSlots}
use Rattle.std.specs.Prelude.{ℕ, ◌≡◌, ◌⊎◌, true, List, Option, None}
use Rattle.queue_protocol.specs.plain_state.declared.slot.SlotId.{SlotId}
use Rattle.slot_store.specs.acquire_retire.Domains.{DomainState}
use Rattle.slot_store.specs.acquire_retire.Seats.{SeatState}
use Rattle.queue_protocol.specs.queue_law.declared.view.View.{View}
use Rattle.queue_protocol.specs.declared.law.QueueLaw.{QueueLaw}
use Rattle.linked_queue.specs.Attaching.{LooksAtHead, is_slot}
use Rattle.linked_queue.specs.Leaving.{Leaves, TrailGoesOn}
use Rattle.linked_queue.specs.Pops.{Pops, PopsAtHead}

-- A try of the call was lost so, and showed `seen` and then `now`. The trail of the seat goes on from the call's entry
-- to the try, and from there to the call's answer.
pub record LosesTry (is_lost : ℕ → ℕ → SeatState View → SeatState View → Type 0)
    (old new : SeatState View) : Type 0 where
  pub seen : ℕ
  pub now : ℕ
  pub before : SeatState View
  pub after : SeatState View
  pub begins : TrailGoesOn old before
  pub loses : is_lost seen now before after
  pub ends : TrailGoesOn after new

-- why a call that tries again has run out of adds: at most n were left at its entry, or a try was lost
abbrev pub IsWhyShort : ℕ → (ℕ → ℕ → SeatState View → SeatState View → Type 0) → SeatState View
    → SeatState View → Type 0
IsWhyShort n is_lost old new = HasFewAdds n old.view.core ⊎ LosesTry is_lost old new

-- Its tries popped nothing, and left the seat what it had; the last one found an item, or that nothing was linked.
pub record PopsAtLast (fits : List ℕ → Type 0) (d : DomainState QueueLaw) (found : Option SlotId)
    (old new : SeatState View) : Type 0 where
  pub last : SeatState View
  pub lost : Pops None old last
  pub pops : PopsAtHead fits d found last new

-- Its looks left the client's view as it was; the last one found a slot in the head cell.
pub record AttachesAtLast (fits : List ℕ → Type 0) (d : DomainState QueueLaw)
    (old new : SeatState View) : Type 0 where
  pub last : SeatState View
  pub same : last.view.client ≡ old.view.client
  pub found : Option SlotId
  pub slot : is_slot found ≡ true
  pub looks : LooksAtHead fits d found last new

-- A try linked nothing: the seat has what it had, and of its view all is as it was but what it sees.
pub record LinksNothing (old new : SeatState View) : Type 0 where
  pub leaves : Leaves old.view.core.owned old new
  pub beside : beside_eyes new.view.client ≡ beside_eyes old.view.client

module _ (fits : List ℕ → Type 0) (d : DomainState QueueLaw) where
  -- a try to link some node was lost
  abbrev pub LosesAnyNode : ℕ → ℕ → SeatState View → SeatState View → Type 0
  LosesAnyNode seen now old new = (node : SlotId) × LosesLast fits d node seen now old new

  -- Its tries linked nothing, and at the last one it linked its node behind the last node.
  pub record LinksAtLast (last node : SlotId) (old new : SeatState View) : Type 0 where
    pub before : SeatState View
    pub lost : LinksNothing old before
    pub links : LinksLast fits d last node before new

  -- It did so, advanced the tail cell, and gave the last node up.
  pub record PushesNodeAtLast (node : SlotId) (old new : SeatState View) : Type 0 where
    pub last : SlotId
    pub linked : SeatState View
    pub late : SeatState View
    pub links : LinksAtLast last node old linked
    pub advances : Advances fits d last node linked late
    pub drops : DropsStrong fits d last late new

  -- It did so with one node, which carries a reference of its own to the item, and gave up the reference that it was
  -- called with.
  pub record PushesAtLast (item : SlotId) (old new : SeatState View) : Type 0 where
    pub node : SlotId
    pub loaded : SeatState View
    pub pushed : SeatState View
    pub loads : LoadsNode fits d item node old loaded
    pub pushes : PushesNodeAtLast node loaded pushed
    pub drops : DropsStrong fits d item pushed new

  -- why it pushed nothing: no make was left, or the seat has no add left by now, or no slot was free. Where it found
  -- every slot taken, its tries are all events of the call
  abbrev pub IsWhyNeverPushed : MakeError → SeatState View → SeatState View → Type 0
  IsWhyNeverPushed refused.MakesSpent old new = HasNoMake old.view.core
  IsWhyNeverPushed refused.AddsSpent old new = IsSpent new.view.core
  IsWhyNeverPushed refused.Full old new = MissesSlots fits d old new
