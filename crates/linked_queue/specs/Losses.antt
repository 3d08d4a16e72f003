-- How a pop was lost to another seat: all events of such a try in order. A place of the queue, or the field of the item
-- that is to be read, showed `seen` and then `now` to two of them, and none of them changed it.
use Rattle.std.specs.Prelude.{ℕ, ◌≡◌, ◌⊎◌, ◌+◌, true, Option, Some, None, List}
use Rattle.queue_protocol.specs.plain_state.declared.act.EventPlace.TheVariants.{Cell, Field}
use Rattle.queue_protocol.specs.plain_state.declared.slot.SlotId.{SlotId}
use Rattle.slot_store.specs.acquire_retire.Calls.{IsSameView, same_view}
use Rattle.slot_store.specs.acquire_retire.Domains.{DomainState}
use Rattle.slot_store.specs.acquire_retire.Seats.{SeatState}
use Rattle.slot_store.specs.control_word.Calls.{DropsStrong, GainsStrong}
use Rattle.part_calls.specs.protected_loads.References.{Refers}
use Rattle.slot_store.specs.retiring_stores.Exchanging.{LosesTo}
use Rattle.queue_protocol.specs.queue_law.Lessons.{NextTells, TellsNothing, learn_next, next_next}
use Rattle.queue_protocol.specs.queue_law.Pops.{take_next}
use Rattle.queue_protocol.specs.queue_law.declared.view.View.{View}
use Rattle.queue_protocol.specs.declared.law.QueueLaw.{QueueLaw}
use Rattle.linked_queue.specs.declared.queue.PopError.{PopError}
use Rattle.linked_queue.specs.Cells.{HeadTells}
use Rattle.linked_queue.specs.Pops.{IsWhyLost, Reads}
use Rattle.linked_queue.specs.Queues.{ends_of}
use Rattle.linked_queue.specs.Seeing.{LoadsItem, MissesAt, MissesHead, MissesItem, MissesNext, Passes}

module _ (fits : List ℕ → Type 0) (d : DomainState QueueLaw) where
  -- The seat counted a reference to the next node, expected `front` in the head cell, found `now` there, and gave the
  -- reference up.
  pub record LosesHead (front next : SlotId) (now : ℕ) (old new : SeatState View) : Type 0 where
    pub copied : SeatState View
    pub lost : SeatState View
    pub copies : GainsStrong fits d same_view IsSameView next old copied
    pub loses :
        LosesTo fits d take_next TellsNothing (Cell d.protocol.head) (Some next)
        (Some front) now copied lost
    pub drops : DropsStrong fits d next lost new

  -- a reference that was gained, if one was, is given up
  abbrev pub DropsFound : Option SlotId → SeatState View → SeatState View → Type 0
  DropsFound None old new = new ≡ old
  DropsFound (Some s) old new = DropsStrong fits d s old new

  -- The field of the item that was to be read changed.
  abbrev pub MissesContent : Option ℕ → SlotId → ℕ → ℕ → SeatState View → SeatState View → Type 0
  MissesContent None item seen now old new = ⊥
  MissesContent (Some f) item seen now old new =
      MissesAt fits d (Field item f) same_view TellsNothing seen now old new

  -- It read the field, and lost the exchange of the head cell.
  pub record LosesTake (field : Option ℕ) (front next item : SlotId) (seen now : ℕ)
      (old new : SeatState View) : Type 0 where
    pub content : Option SlotId
    pub read : SeatState View
    pub lost : SeatState View
    pub reads : Reads fits d field item content old read
    pub expected : seen ≡ front.0 + 1
    pub loses : LosesHead front next now read lost
    pub drops : DropsFound content lost new

  abbrev pub LosesWith : Option ℕ → SlotId → SlotId → SlotId → ℕ → ℕ → SeatState View
      → SeatState View → Type 0
  LosesWith field front next item seen now old new =
      MissesContent field item seen now old new
      ⊎ LosesTake field front next item seen now old new

  -- It did either with a reference to the item, which it gave up again.
  pub record LosesItem (field : Option ℕ) (front next : SlotId) (seen now : ℕ)
      (old new : SeatState View) : Type 0 where
    pub item : SlotId
    pub loaded : SeatState View
    pub lost : SeatState View
    pub loads : LoadsItem fits d next (Some item) old loaded
    pub loses : LosesWith field front next item seen now loaded lost
    pub drops : DropsStrong fits d item lost new

  -- The next node's field 1 changed, or was null, where the head cell had gone on; or it held an item.
  abbrev pub LosesNode : Option ℕ → SlotId → SlotId → ℕ → ℕ → SeatState View → SeatState View
      → Type 0
  LosesNode field front next seen now old new =
      MissesItem fits d next seen now old new
      ⊎ ((seen ≡ front.0 + 1) × Passes fits d front next now old new)
      ⊎ LosesItem field front next seen now old new

  -- It did so with a reference to the next node, which it gave up again.
  pub record LosesNext (field : Option ℕ) (front : SlotId) (seen now : ℕ)
      (old new : SeatState View) : Type 0 where
    pub next : SlotId
    pub loaded : SeatState View
    pub lost : SeatState View
    pub loads :
        Refers fits d (Field front 0) next_next (NextTells (ends_of d)) next old loaded
    pub loses : LosesNode field front next seen now loaded lost
    pub drops : DropsStrong fits d next lost new

  -- Field 0 of the head's node changed, or it held a node.
  abbrev pub LosesBehind : Option ℕ → SlotId → ℕ → ℕ → SeatState View → SeatState View → Type 0
  LosesBehind field front seen now old new =
      MissesNext fits d front seen now old new ⊎ LosesNext field front seen now old new

  -- It did so with a reference to the head's node, which it gave up again.
  pub record LosesFront (field : Option ℕ) (seen now : ℕ) (old new : SeatState View) : Type 0
    where
      pub front : SlotId
      pub loaded : SeatState View
      pub lost : SeatState View
      pub loads :
          Refers fits d (Cell d.protocol.head) (learn_next true) (HeadTells (ends_of d)) front
          old loaded
      pub loses : LosesBehind field front seen now loaded lost
      pub drops : DropsStrong fits d front lost new

  -- The head cell changed, or it held a node: all events of a pop that was lost.
  abbrev pub LosesAtHead : Option ℕ → ℕ → ℕ → SeatState View → SeatState View → Type 0
  LosesAtHead field seen now old new =
      MissesHead fits d seen now old new ⊎ LosesFront field seen now old new

  -- why nothing was popped: at most n adds were left, or another seat was quicker
  abbrev pub IsWhyUnpopped : Option ℕ → ℕ → PopError → SeatState View → SeatState View → Type 0
  IsWhyUnpopped field n error old new =
      IsWhyLost (λ seen now. LosesAtHead field seen now old new) n error old
