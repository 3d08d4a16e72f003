-- What a pop does, and what it leaves.
use Rattle.queue_protocol.specs.plain_state.State.{no_payload}
use Rattle.std.specs.Prelude.{ℕ, ◌≡◌, ◌+◌, ◌<◌, true, [], ◌∷◌, ◌++◌, Option, Some, None, Result, Ok, Err, IfSome, List}
use Rattle.queue_protocol.specs.plain_state.declared.act.EventPlace.TheVariants.{Cell, Field}
use Rattle.queue_protocol.specs.plain_state.declared.slot.SlotId.{SlotId}
use Rattle.queue_protocol.specs.plain_state.Lists.{times}
use Rattle.slot_store.specs.core_events.declared.view.CoreView.{CoreView}
use Rattle.slot_store.specs.counted_handles.declared.refusal.LoadError.{LoadError}
use Rattle.slot_store.specs.counted_handles.declared.refusal.LoadError.TheVariants as unloaded
use Rattle.slot_store.specs.domain_rule.Views.{object_in}
use Rattle.slot_store.specs.acquire_retire.Calls.{IsSameView, same_view}
use Rattle.slot_store.specs.acquire_retire.Domains.{DomainState}
use Rattle.slot_store.specs.acquire_retire.Seats.{SeatState}
use Rattle.slot_store.specs.control_word.Calls.{DropsStrong, GainsStrong}
use Rattle.part_calls.specs.atomic_shared.Places.{named}
use Rattle.slot_store.specs.counted_handles.Handles.{Handle}
use Rattle.part_calls.specs.protected_loads.References.{Loads, Refers}
use Rattle.slot_store.specs.retiring_stores.Exchanging.{Replaces, Stores}
use Rattle.queue_protocol.specs.queue_law.Lessons.{NextTells, TellsNothing, learn_next, next_next}
use Rattle.queue_protocol.specs.queue_law.Pops.{empty_next, take_next}
use Rattle.queue_protocol.specs.queue_law.declared.view.Item.{Item}
use Rattle.queue_protocol.specs.queue_law.declared.view.View.{View}
use Rattle.queue_protocol.specs.declared.law.QueueLaw.{QueueLaw}
use Rattle.linked_queue.specs.declared.queue.PopError.{PopError}
use Rattle.linked_queue.specs.declared.queue.PopError.TheVariants as unpopped
use Rattle.linked_queue.specs.Cells.{HeadTells}
use Rattle.linked_queue.specs.Leaving.{Leaves, with_found}
use Rattle.linked_queue.specs.Nodes.{HasFewAdds}
use Rattle.linked_queue.specs.Queues.{deeds_in, ends_of}
use Rattle.linked_queue.specs.Seeing.{FindsLast, LoadsItem}
use Rattle.linked_queue.specs.UnlessRipe.{next_unless}

-- the object that the seat knows in s, as an item
abbrev pub item_in : SeatState View → SlotId → Item
item_in seat s = record {
  slot = s.0;
  life = (object_in seat.view s).life;
  payload = (object_in seat.view s).payload;
}

-- a view that has popped one item more
abbrev pub popped_too : Item → View → View
popped_too item v =
    record v { popped = v.popped ++ record { item = item; taker = v.number } ∷ [] }

-- the seat has popped what was found, as it knows it, or nothing
abbrev pub popped_in : Option SlotId → SeatState View → View → View
popped_in None seat v = v
popped_in (Some s) seat v = popped_too (item_in seat s) v

-- The seat gained a reference to what was found, and has popped it; or it gained and popped nothing.
pub record Pops (found : Option SlotId) (old new : SeatState View) : Type 0 where
  pub leaves : Leaves (with_found found old.view.core.owned) old new
  pub deeds : deeds_in new.view.client ≡ popped_in found new (deeds_in old.view.client)

-- WITH A CONTENT: an item, and what a field of it held
abbrev pub item_of : Option (SlotId × Option SlotId) → Option SlotId
item_of None = None
item_of (Some x) = Some x.0

-- an item, of which nothing was read
abbrev pub bare : Option SlotId → Option (SlotId × Option SlotId)
bare None = None
bare (Some s) = Some (s, None)

-- the slots that are named by what a call answers
abbrev pub named_both : Option (Handle × Option Handle) → Option (SlotId × Option SlotId)
named_both None = None
named_both (Some x) = Some (x.0.slot, named x.1)

abbrev pub both_by : {E : Type 0} → Result (Option (Handle × Option Handle)) E
    → Option (SlotId × Option SlotId)
both_by (Ok found) = named_both found
both_by (Err error) = None

abbrev pub pair_by : {E : Type 0} → Result (Handle × Option Handle) E
    → Option (SlotId × Option SlotId)
pair_by (Ok x) = named_both (Some x)
pair_by (Err error) = None

abbrev pub with_both : Option (SlotId × Option SlotId) → List SlotId → List SlotId
with_both None xs = xs
with_both (Some x) xs = with_found x.1 (xs ++ x.0 ∷ [])

-- The seat gained a reference to the item and one to the content, if there is one, and has popped the item; or it
-- gained and popped nothing.
pub record PopsWith (found : Option (SlotId × Option SlotId)) (old new : SeatState View) : Type 0
  where
    pub leaves : Leaves (with_both found old.view.core.owned) old new
    pub deeds :
        deeds_in new.view.client ≡ popped_in (item_of found) new (deeds_in old.view.client)

-- the seat owns both
abbrev pub OwnsBoth : Handle × Option Handle → CoreView → Type 0
OwnsBoth pair v =
    (0 < times pair.0.slot v.owned) × IfSome pair.1 (λ content. 0 < times content.slot v.owned)

-- how many adds it takes to read a field, if one is to be read
abbrev pub adds_of : Option ℕ → ℕ
adds_of None = 0
adds_of (Some f) = 1

-- the seat owns the node that it made the dummy
pub record HasEmptied (s : SlotId) (seat : SeatState View) : Type 0 where
  pub owns : 0 < times s seat.view.core.owned
  pub dummy : seat.view.client.dummy ≡ s.0 + 1
  pub life : (object_in seat.view s).life ≡ seat.view.client.dummy_life
  pub is_node : (object_in seat.view s).payload ≡ no_payload

-- why a load gave nothing, as a pop tells it
abbrev pub unpopped_by : LoadError → PopError
unpopped_by unloaded.Spent = unpopped.Spent
unpopped_by (unloaded.Moved seen now) = unpopped.Again seen now

-- why nothing was popped: at most n adds were left, or another seat was quicker
abbrev pub IsWhyLost : (ℕ → ℕ → Type 0) → ℕ → PopError → SeatState View → Type 0
IsWhyLost loses n unpopped.Spent old = HasFewAdds n old.view.core
IsWhyLost loses n (unpopped.Again seen now) old = loses seen now

module _ (fits : List ℕ → Type 0) (d : DomainState QueueLaw) where
  -- The seat exchanged the head's node for the next one, of which it counted a reference before.
  pub record Takes (front next : SlotId) (old new : SeatState View) : Type 0 where
    pub copied : SeatState View
    pub copies : GainsStrong fits d same_view IsSameView next old copied
    pub replaces :
        Replaces fits d take_next TellsNothing (Cell d.protocol.head) (Some next)
        (Some front) copied new

  -- of the item it read this field, if one is named: it gained a reference to the content, where that isn't null
  abbrev pub Reads : Option ℕ → SlotId → Option SlotId → SeatState View → SeatState View → Type 0
  Reads None item content old new = (content ≡ None) × (new ≡ old)
  Reads (Some f) item content old new =
      Loads fits d (Field item f) same_view TellsNothing content old new

  -- It read the field, exchanged the head's node, and cleared the item of the new dummy.
  pub record TakesWith (field : Option ℕ) (front next item : SlotId) (content : Option SlotId)
      (old new : SeatState View) : Type 0 where
    pub read : SeatState View
    pub taken : SeatState View
    pub reads : Reads field item content old read
    pub takes : Takes front next read taken
    pub empties :
        Stores fits d (next_unless empty_next) TellsNothing (Field next 1) None taken new

  -- It did so with a reference to the next node's item.
  pub record TakesItem (field : Option ℕ) (front next item : SlotId) (content : Option SlotId)
      (old new : SeatState View) : Type 0 where
    pub seen : SeatState View
    pub loads : LoadsItem fits d next (Some item) old seen
    pub takes : TakesWith field front next item content seen new

  -- It did so with a reference to the next node, which it gave up again.
  pub record TakesNext (field : Option ℕ) (front item : SlotId) (content : Option SlotId)
      (old new : SeatState View) : Type 0 where
    pub next : SlotId
    pub seen : SeatState View
    pub popped : SeatState View
    pub loads :
        Refers fits d (Field front 0) next_next (NextTells (ends_of d)) next old seen
    pub takes : TakesItem field front next item content seen popped
    pub drops : DropsStrong fits d next popped new

  -- behind a node that the head cell held it found an item, or nothing
  abbrev pub PopsBehind : Option ℕ → SlotId → Option (SlotId × Option SlotId) → SeatState View
      → SeatState View → Type 0
  PopsBehind field front None old new = FindsLast fits d front old new
  PopsBehind field front (Some x) old new = TakesNext field front x.0 x.1 old new

  -- It did so with a reference to the head's node, which it gave up again.
  pub record PopsAtHeadWith (field : Option ℕ) (found : Option (SlotId × Option SlotId))
      (old new : SeatState View) : Type 0 where
    pub front : SlotId
    pub seen : SeatState View
    pub popped : SeatState View
    pub loads :
        Refers fits d (Cell d.protocol.head) (learn_next true) (HeadTells (ends_of d)) front
        old seen
    pub pops : PopsBehind field front found seen popped
    pub drops : DropsStrong fits d front popped new

  -- It did so, and read nothing of the item.
  abbrev pub PopsAtHead : Option SlotId → SeatState View → SeatState View → Type 0
  PopsAtHead found = PopsAtHeadWith None (bare found)
