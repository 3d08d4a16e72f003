-- What a seat has on its way through a push, what a push does, and what it leaves.
use Rattle.std.specs.Prelude.{ℕ, ◌≡◌, ◌⊎◌, ◌+◌, ◌<◌, true, false, [], ◌∷◌, ◌++◌, Option, Some, None, List}
use Rattle.queue_protocol.specs.plain_state.declared.act.EventPlace.TheVariants.{Cell, Field}
use Rattle.queue_protocol.specs.plain_state.declared.slot.SlotId.{SlotId}
use Rattle.queue_protocol.specs.plain_state.Lists.{times}
use Rattle.queue_protocol.specs.plain_state.State.{no_payload}
use Rattle.slot_store.specs.core_events.declared.act.Act.TheVariants as act
use Rattle.slot_store.specs.core_events.declared.outcome.Outcome.TheVariants as outcome
use Rattle.slot_store.specs.core_events.declared.view.CoreView.{CoreView}
use Rattle.slot_store.specs.core_events.Views.{without}
use Rattle.slot_store.specs.counted_handles.Handles.{Handle}
use Rattle.slot_store.specs.counted_handles.declared.refusal.LoadError.{LoadError}
use Rattle.slot_store.specs.counted_handles.declared.refusal.LoadError.TheVariants as unloaded
use Rattle.slot_store.specs.domain_rule.Views.{object_in}
use Rattle.slot_store.specs.acquire_retire.Calls.{IsSameView, Steps, same_view}
use Rattle.slot_store.specs.acquire_retire.Domains.{DomainState}
use Rattle.slot_store.specs.acquire_retire.Seats.{SeatState}
use Rattle.slot_store.specs.control_word.Calls.{DropsStrong, GainsStrong}
use Rattle.slot_store.specs.retiring_stores.Exchanging.{LosesTo, Replaces, Stores}
use Rattle.slot_store.specs.declared.making.MakeError.{MakeError}
use Rattle.slot_store.specs.declared.making.MakeError.TheVariants as refused
use Rattle.slot_store.specs.Calls.{HasNoMake, Makes}
use Rattle.slot_store.specs.Searching.{Misses as MissesSlots}
use Rattle.part_calls.specs.protected_loads.References.{Refers}
use Rattle.part_calls.specs.protected_loads.Loads.{FindsNull}
use Rattle.linked_queue.specs.UnlessRipe.{next_unless}
use Rattle.queue_protocol.specs.queue_law.Nodes.{carry_next, make_next}
use Rattle.queue_protocol.specs.queue_law.declared.view.Item.{Item}
use Rattle.queue_protocol.specs.queue_law.declared.view.View.{View}
use Rattle.queue_protocol.specs.queue_law.Lessons.{NextTells, TellsNothing, ahead_next, learn_next, next_next}
use Rattle.queue_protocol.specs.queue_law.Pushes.{advance_next, link_next}
use Rattle.queue_protocol.specs.queue_law.Views.{sees_node}
use Rattle.queue_protocol.specs.declared.law.QueueLaw.{QueueLaw}
use Rattle.linked_queue.specs.declared.queue.PushError.{PushError}
use Rattle.linked_queue.specs.declared.queue.PushError.TheVariants as unpushed
use Rattle.linked_queue.specs.Leaving.{Leaves}
use Rattle.linked_queue.specs.Cells.{TailTells}
use Rattle.linked_queue.specs.Nodes.{HasFewAdds}
use Rattle.linked_queue.specs.Queues.{deeds_in, ends_of}
use Rattle.linked_queue.specs.Pops.{item_in}

-- the seat owns a node of its own, which carries an item
pub record HasLoad (s : SlotId) (seat : SeatState View) : Type 0 where
  pub owns : 0 < times s seat.view.core.owned
  pub node : seat.view.client.load.node ≡ s.0 + 1
  pub life : (object_in seat.view s).life ≡ seat.view.client.load.life
  pub is_node : (object_in seat.view s).payload ≡ no_payload
  pub carried : 0 < seat.view.client.load.item

-- the seat owns a node that it saw in the tail cell
pub record SeesTail (last : SlotId) (seat : SeatState View) : Type 0 where
  pub owns : 0 < times last seat.view.core.owned
  pub node : seat.view.client.eyes.node ≡ last.0 + 1
  pub life : (object_in seat.view last).life ≡ seat.view.client.eyes.life
  pub was_tail : seat.view.client.eyes.was_tail ≡ true
  pub is_node : (object_in seat.view last).payload ≡ no_payload
  pub inside : last.0 < seat.view.core.shape.slots

-- and the node that follows it
pub record SeesBehind (last next : SlotId) (seat : SeatState View) : Type 0 where
  pub tail : SeesTail last seat
  pub owns : 0 < times next seat.view.core.owned
  pub following : seat.view.client.eyes.following ≡ next.0 + 1
  pub is_node : (object_in seat.view next).payload ≡ no_payload

-- a view once the tail cell has held this node, as the seat knows it
abbrev pub advanced_in : SlotId → SeatState View → View → View
advanced_in s seat v = record v {
  eyes = record (sees_node (s.0 + 1) (object_in seat.view s).life) { was_tail = true };
}

-- why no node could be made that carries the item: at most n adds were left, or `make` has refused. Where it found
-- every slot taken, its tries are all events of the call
abbrev pub IsWhyRefused : (List ℕ → Type 0) → DomainState QueueLaw → ℕ → MakeError → SeatState View
    → SeatState View → Type 0
IsWhyRefused fits d n refused.MakesSpent old new = HasNoMake old.view.core
IsWhyRefused fits d n refused.AddsSpent old new = HasFewAdds n old.view.core
IsWhyRefused fits d n refused.Full old new = MissesSlots fits d old new

-- why a node wasn't linked: at most n adds were left, or another seat was quicker
abbrev pub IsWhyUnlinked : (ℕ → ℕ → Type 0) → ℕ → LoadError → SeatState View → Type 0
IsWhyUnlinked loses n unloaded.Spent old = HasFewAdds n old.view.core
IsWhyUnlinked loses n (unloaded.Moved seen now) old = loses seen now

-- No make was used where `make` has refused for the makes or the slots. Where an increment was refused, a node may have
-- been made before.
abbrev pub UsesNone : Option MakeError → CoreView → CoreView → Type 0
UsesNone (Some refused.MakesSpent) v w = w.makes ≡ v.makes
UsesNone (Some refused.Full) v w = w.makes ≡ v.makes
UsesNone (Some refused.AddsSpent) v w = Unit {0}
UsesNone None v w = Unit {0}

-- a view that has pushed one item more
abbrev pub pushed_too : Item → View → View
pushed_too item v =
    record v { pushed = v.pushed ++ record { item = item; taker = v.number } ∷ [] }

module _ (fits : List ℕ → Type 0) (d : DomainState QueueLaw) where
  -- The seat exchanged the tail cell for the next node, or found it advanced already, and gave the reference up.
  abbrev pub Advances : SlotId → SlotId → SeatState View → SeatState View → Type 0
  Advances last next old new =
      Replaces fits d advance_next TellsNothing (Cell d.protocol.tail) (Some next)
      (Some last) old new
      ⊎ ((now : ℕ) × (mid : SeatState View)
      × LosesTo fits d advance_next TellsNothing (Cell d.protocol.tail) (Some next)
      (Some last) now old mid
      × DropsStrong fits d next mid new)

  -- It counted a reference to its node, and exchanged the last node's field 0, which was null, for it.
  pub record Links (last node : SlotId) (old new : SeatState View) : Type 0 where
    pub copied : SeatState View
    pub copies : GainsStrong fits d same_view IsSameView node old copied
    pub replaces :
        Replaces fits d link_next TellsNothing (Field last 0) (Some node) None copied new

  -- It made a node, counted a reference to the item, and put that into field 1 of the node.
  pub record LoadsNode (item node : SlotId) (old new : SeatState View) : Type 0 where
    pub made : SeatState View
    pub copied : SeatState View
    pub makes : Makes fits d make_next TellsNothing no_payload node old made
    pub copies : GainsStrong fits d same_view IsSameView item made copied
    pub stores :
        Stores fits d (next_unless carry_next) TellsNothing (Field node 1) (Some item)
        copied new

  -- Its look at field 0 of the node behind one that it saw in the tail cell found this.
  abbrev pub LooksAhead : SlotId → Option SlotId → SeatState View → SeatState View → Type 0
  LooksAhead next found old new =
      Steps fits d ahead_next TellsNothing (act.Look (Field next 0)) old new
      (outcome.Found found)

  -- It counted a reference to the next node, with which it advanced the tail cell, or found it advanced already.
  pub record Helps (last next : SlotId) (old new : SeatState View) : Type 0 where
    pub copied : SeatState View
    pub copies : GainsStrong fits d same_view IsSameView next old copied
    pub advances : Advances last next copied new

  -- Behind the next node it found none, and it helped the tail cell on to that one.
  pub record HelpsOn (first next : SlotId) (old new : SeatState View) : Type 0 where
    pub looked : SeatState View
    pub null : LooksAhead next None old looked
    pub helps : Helps first next looked new

  -- behind a node of the tail cell it found another one, to which it helped the tail cell on
  pub record Follows (first next : SlotId) (old new : SeatState View) : Type 0 where
    pub seen : SeatState View
    pub loads :
        Refers fits d (Field first 0) next_next (NextTells (ends_of d)) next old seen
    pub helps : HelpsOn first next seen new

  -- it found none, or did so
  abbrev pub FindsBehind : SlotId → Option SlotId → SeatState View → SeatState View → Type 0
  FindsBehind first None old new =
      FindsNull fits d (Field first 0) next_next (NextTells (ends_of d)) old new
  FindsBehind first (Some next) old new = Follows first next old new

  -- behind it there was none
  abbrev pub Stays : SlotId → SlotId → SeatState View → SeatState View → Type 0
  Stays first last old new = (last ≡ first) × FindsBehind first None old new

  -- there was another, and the first one was given up
  pub record GoesOn (first last : SlotId) (old new : SeatState View) : Type 0 where
    pub helped : SeatState View
    pub follows : FindsBehind first (Some last) old helped
    pub drops : DropsStrong fits d first helped new

  -- It found the last node by the tail cell.
  pub record FindsEnd (last : SlotId) (old new : SeatState View) : Type 0 where
    pub first : SlotId
    pub seen : SeatState View
    pub loads :
        Refers fits d (Cell d.protocol.tail) (learn_next false) (TailTells (ends_of d))
        first old seen
    pub which : Stays first last seen new ⊎ GoesOn first last seen new

  -- It found the last node, and linked its own behind it.
  pub record LinksLast (last node : SlotId) (old new : SeatState View) : Type 0 where
    pub found : SeatState View
    pub finds : FindsEnd last old found
    pub links : Links last node found new

  -- It found the last node, linked its own behind it, advanced the tail cell, and gave the last node up.
  pub record PushesNode (node : SlotId) (old new : SeatState View) : Type 0 where
    pub last : SlotId
    pub found : SeatState View
    pub linked : SeatState View
    pub late : SeatState View
    pub finds : FindsEnd last old found
    pub links : Links last node found linked
    pub advances : Advances last node linked late
    pub drops : DropsStrong fits d last late new

  -- It did so with a node that carries a reference of its own to the item.
  pub record PushesCopy (item : SlotId) (old new : SeatState View) : Type 0 where
    pub node : SlotId
    pub loaded : SeatState View
    pub loads : LoadsNode item node old loaded
    pub pushes : PushesNode node loaded new

  -- all events of a push: in the end it gave up the reference that it was called with
  pub record PushesBy (item : SlotId) (old new : SeatState View) : Type 0 where
    pub pushed : SeatState View
    pub copy : PushesCopy item old pushed
    pub drops : DropsStrong fits d item pushed new

-- The seat has given its reference to the item, and has pushed it, as it knows it.
pub record Pushes (item : SlotId) (old new : SeatState View) : Type 0 where
  pub leaves : Leaves (without item old.view.core.owned) old new
  pub deeds :
      deeds_in new.view.client ≡ pushed_too (item_in old item) (deeds_in old.view.client)

-- The seat has what it had, and has pushed nothing.
pub record PushesNothing (old new : SeatState View) : Type 0 where
  pub leaves : Leaves old.view.core.owned old new
  pub deeds : deeds_in new.view.client ≡ deeds_in old.view.client

abbrev pub back_of : PushError → Handle
back_of (unpushed.Again seen now back) = back
back_of (unpushed.Refused r) = r.back

-- what refused a push, where no other seat did
abbrev pub cause_of : PushError → Option MakeError
cause_of (unpushed.Again seen now back) = None
cause_of (unpushed.Refused r) = Some r.why
