-- What a seat sees of a queue, and how it finds that another seat was quicker.
use Rattle.std.specs.Prelude.{ℕ, ◌≡◌, ◌≢◌, ◌+◌, ◌<◌, true, Option, None, List}
use Rattle.queue_protocol.specs.plain_state.declared.act.EventPlace.{EventPlace}
use Rattle.queue_protocol.specs.plain_state.declared.act.EventPlace.TheVariants.{Cell, Field}
use Rattle.queue_protocol.specs.plain_state.declared.act.PlainAct.{PlainAct}
use Rattle.queue_protocol.specs.plain_state.declared.slot.SlotId.{SlotId}
use Rattle.queue_protocol.specs.plain_state.Lists.{times}
use Rattle.queue_protocol.specs.plain_state.State.{Plain, no_payload}
use Rattle.queue_protocol.specs.plain_protocol.Owns.{OwnPart}
use Rattle.slot_store.specs.core_events.declared.act.Act.TheVariants as act
use Rattle.slot_store.specs.core_events.declared.outcome.Outcome.TheVariants as outcome
use Rattle.slot_store.specs.core_events.Words.{slot_in}
use Rattle.slot_store.specs.domain_rule.Views.{object_in}
use Rattle.slot_store.specs.acquire_retire.Calls.{Steps, same_view}
use Rattle.slot_store.specs.acquire_retire.Collecting.{move}
use Rattle.slot_store.specs.acquire_retire.Domains.{DomainState}
use Rattle.slot_store.specs.acquire_retire.Seats.{SeatState}
use Rattle.slot_store.specs.control_word.Resting.{IsSpent}
use Rattle.slot_store.specs.counted_handles.declared.refusal.LoadError.{LoadError}
use Rattle.slot_store.specs.counted_handles.declared.refusal.LoadError.TheVariants as unloaded
use Rattle.part_calls.specs.protected_loads.Loads.{FindsNull, Misses}
use Rattle.part_calls.specs.protected_loads.References.{Loads}
use Rattle.slot_store.specs.retiring_stores.Exchanging.{shown_after}
use Rattle.queue_protocol.specs.queue_law.Lessons.{NextTells, NothingLinked, TellsNothing, learn_next, next_next}
use Rattle.queue_protocol.specs.queue_law.declared.view.View.{View}
use Rattle.queue_protocol.specs.declared.law.QueueLaw.{QueueLaw}
use Rattle.linked_queue.specs.Cells.{HeadTells}
use Rattle.linked_queue.specs.Items.{GoneTells, see_item_next}
use Rattle.linked_queue.specs.Queues.{ends_of}

-- the seat owns the node that it saw in the head cell
pub record SeesHead (front : SlotId) (seat : SeatState View) : Type 0 where
  pub owns : 0 < times front seat.view.core.owned
  pub node : seat.view.client.eyes.node ≡ front.0 + 1
  pub life : (object_in seat.view front).life ≡ seat.view.client.eyes.life
  pub was_head : seat.view.client.eyes.was_head ≡ true

-- and the node that follows it
pub record SeesNext (front next : SlotId) (seat : SeatState View) : Type 0 where
  pub head : SeesHead front seat
  pub owns : 0 < times next seat.view.core.owned
  pub following : seat.view.client.eyes.following ≡ next.0 + 1
  pub is_node : (object_in seat.view next).payload ≡ no_payload

-- and that one's item
pub record SeesItem (front next item : SlotId) (seat : SeatState View) : Type 0 where
  pub nodes : SeesNext front next seat
  pub owns : 0 < times item seat.view.core.owned
  pub found : seat.view.client.eyes.found ≡ item.0 + 1

-- or that there was none: it noted a slot that isn't there, if there are so many
pub record SeesNone (slots : ℕ) (front next : SlotId) (seat : SeatState View) : Type 0 where
  pub nodes : SeesNext front next seat
  pub gone : seat.view.client.eyes.found ≡ slots + 1

-- why a load gave nothing: no add was left, or a place has changed
abbrev pub IsWhyUnread : (ℕ → ℕ → Type 0) → LoadError → SeatState View → Type 0
IsWhyUnread differs unloaded.Spent old = IsSpent old.view.core
IsWhyUnread differs (unloaded.Moved seen now) old = differs seen now

module _ (fits : List ℕ → Type 0) (d : DomainState QueueLaw) where
  -- The seat's look at a place found `seen`, and its check of the place, with this deed, found `now`, which is another
  -- content. Between them it announced what it had found, and nothing else.
  abbrev pub MissesAt : EventPlace → (OwnPart → OwnPart → View → PlainAct → ℕ → View)
      → (Plain → Plain → ℕ → View → View → Type 0) → ℕ → ℕ → SeatState View → SeatState View
      → Type 0
  MissesAt place next allows seen now old new =
      Misses fits d 0 place next allows (slot_in seen) (slot_in now) old new

  -- so the head cell, field 0 of the head's node, and field 1 of the node after it
  abbrev pub MissesHead : ℕ → ℕ → SeatState View → SeatState View → Type 0
  MissesHead = MissesAt (Cell d.protocol.head) (learn_next true) (HeadTells (ends_of d))

  abbrev pub MissesNext : SlotId → ℕ → ℕ → SeatState View → SeatState View → Type 0
  MissesNext front = MissesAt (Field front 0) next_next (NextTells (ends_of d))

  abbrev pub MissesItem : SlotId → ℕ → ℕ → SeatState View → SeatState View → Type 0
  MissesItem next = MissesAt (Field next 1) (see_item_next d.shape.slots) TellsNothing

  -- a load of that field, with what it notes
  abbrev pub LoadsItem : SlotId → Option SlotId → SeatState View → SeatState View → Type 0
  LoadsItem next found old new =
      Loads fits d (Field next 1) (see_item_next d.shape.slots) TellsNothing found old new

  -- a check of a place, with this deed, found `now` where a look had found `seen`, which is another content
  abbrev pub Missed : EventPlace → (OwnPart → OwnPart → View → PlainAct → ℕ → View)
      → (Plain → Plain → ℕ → View → View → Type 0) → ℕ → ℕ → Type 0
  Missed place next allows seen now =
      (old : SeatState View) × (new : SeatState View) × MissesAt place next allows seen now old new

  -- a look at the head cell found this word
  abbrev pub LooksAgain : ℕ → SeatState View → SeatState View → Type 0
  LooksAgain now old new =
      Steps fits d same_view (GoneTells (ends_of d) d.shape.slots)
      (act.Look (Cell d.protocol.head)) old new
      (outcome.Found (slot_in now))

  -- The seat's look at the item of the next node found null; so the head cell held another node then. Its look at the
  -- head cell found `now`, which isn't `front`.
  pub record Passes (front next : SlotId) (now : ℕ) (old new : SeatState View) : Type 0 where
    pub mid : SeatState View
    pub null : LoadsItem next None old mid
    pub looks : LooksAgain now mid new
    pub other : now ≢ front.0 + 1

  -- The seat's look at field 0 of a node that it saw in the head cell found null, and nothing was linked behind the
  -- head's node then.
  pub record FindsLast (front : SlotId) (old new : SeatState View) : Type 0 where
    pub null :
        FindsNull fits d (Field front 0) next_next (NextTells (ends_of d)) old new
    pub nothing :
        NothingLinked (ends_of d)
        (shown_after {m = move (act.Look (Field front 0)) (outcome.Found None)} null.becomes.walks.1)
