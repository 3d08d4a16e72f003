-- How a push was lost to another seat: all events of such a try in order. A check of the tail cell, or of field 0 of
-- the node there, found another word than the look before it; or a look at the tail cell did so, which had gone on; or
-- the exchange of field 0 of the last node didn't find null, as a look before it had.
use Rattle.std.specs.Prelude.{ℕ, ◌≡◌, ◌≢◌, ◌⊎◌, ◌+◌, false, Some, None, List}
use Rattle.queue_protocol.specs.plain_state.declared.act.EventPlace.TheVariants.{Cell, Field}
use Rattle.queue_protocol.specs.plain_state.declared.slot.SlotId.{SlotId}
use Rattle.slot_store.specs.core_events.declared.act.Act.TheVariants as act
use Rattle.slot_store.specs.core_events.declared.outcome.Outcome.TheVariants as outcome
use Rattle.slot_store.specs.core_events.Words.{slot_in}
use Rattle.slot_store.specs.acquire_retire.Calls.{IsSameView, Steps, same_view}
use Rattle.slot_store.specs.acquire_retire.Domains.{DomainState}
use Rattle.slot_store.specs.acquire_retire.Seats.{SeatState}
use Rattle.slot_store.specs.control_word.Calls.{DropsStrong, GainsStrong}
use Rattle.part_calls.specs.protected_loads.References.{Refers}
use Rattle.slot_store.specs.retiring_stores.Exchanging.{LosesTo}
use Rattle.queue_protocol.specs.queue_law.Lessons.{NextTells, PassedTells, TellsNothing, learn_next, next_next, passed_next}
use Rattle.queue_protocol.specs.queue_law.Pushes.{link_next}
use Rattle.queue_protocol.specs.queue_law.declared.view.View.{View}
use Rattle.queue_protocol.specs.declared.law.QueueLaw.{QueueLaw}
use Rattle.linked_queue.specs.declared.queue.PushError.{PushError}
use Rattle.linked_queue.specs.declared.queue.PushError.TheVariants as unpushed
use Rattle.linked_queue.specs.Cells.{TailTells}
use Rattle.linked_queue.specs.Pushes.{FindsEnd, IsWhyRefused, LoadsNode, LooksAhead}
use Rattle.linked_queue.specs.Queues.{ends_of}
use Rattle.linked_queue.specs.Seeing.{MissesAt}

module _ (fits : List ℕ → Type 0) (d : DomainState QueueLaw) where
  -- a load of the tail cell, or of field 0 of a node, found another word at its check than at its look
  abbrev pub MissesTail : ℕ → ℕ → SeatState View → SeatState View → Type 0
  MissesTail = MissesAt fits d (Cell d.protocol.tail) (learn_next false) (TailTells (ends_of d))

  abbrev pub MissesBehind : SlotId → ℕ → ℕ → SeatState View → SeatState View → Type 0
  MissesBehind x = MissesAt fits d (Field x 0) next_next (NextTells (ends_of d))

  -- a look at the tail cell, which has gone past a node that the seat saw there, found this word
  abbrev pub LooksAtTail : ℕ → SeatState View → SeatState View → Type 0
  LooksAtTail now old new =
      Steps fits d passed_next (PassedTells (ends_of d)) (act.Look (Cell d.protocol.tail)) old
      new (outcome.Found (slot_in now))

  -- The seat's look at field 0 of the node behind `first` found another node; so the tail cell had gone past `first`
  -- then. Its look at the tail cell found `now`, which isn't `first`.
  pub record FindsPassed (first next : SlotId) (now : ℕ) (old new : SeatState View) : Type 0
    where
      pub mid : SeatState View
      pub more : SlotId
      pub ahead : LooksAhead fits d next (Some more) old mid
      pub looks : LooksAtTail now mid new
      pub other : now ≢ first.0 + 1

  abbrev pub LosesPassed : SlotId → SlotId → ℕ → ℕ → SeatState View → SeatState View → Type 0
  LosesPassed first next seen now old new =
      (seen ≡ first.0 + 1) × FindsPassed first next now old new

  -- It did so with a reference to the node behind `first`, which it gave up again.
  pub record LosesFollowing (first : SlotId) (seen now : ℕ) (old new : SeatState View) : Type 0
    where
      pub next : SlotId
      pub loaded : SeatState View
      pub lost : SeatState View
      pub loads :
          Refers fits d (Field first 0) next_next (NextTells (ends_of d)) next old loaded
      pub loses : LosesPassed first next seen now loaded lost
      pub drops : DropsStrong fits d next lost new

  -- Field 0 of the tail cell's node changed, or it held a node, and the tail cell had gone on.
  abbrev pub LosesBehind : SlotId → ℕ → ℕ → SeatState View → SeatState View → Type 0
  LosesBehind first seen now old new =
      MissesBehind first seen now old new ⊎ LosesFollowing first seen now old new

  -- It did so with a reference to the tail cell's node, which it gave up again.
  pub record LosesFirst (seen now : ℕ) (old new : SeatState View) : Type 0 where
    pub first : SlotId
    pub loaded : SeatState View
    pub lost : SeatState View
    pub loads :
        Refers fits d (Cell d.protocol.tail) (learn_next false) (TailTells (ends_of d)) first
        old loaded
    pub loses : LosesBehind first seen now loaded lost
    pub drops : DropsStrong fits d first lost new

  -- It didn't find the last node.
  abbrev pub LosesEnd : ℕ → ℕ → SeatState View → SeatState View → Type 0
  LosesEnd seen now old new = MissesTail seen now old new ⊎ LosesFirst seen now old new

  -- It counted a reference to its node, expected null in field 0 of the last node, found `now` there, and gave the
  -- reference up.
  pub record LosesLink (last node : SlotId) (seen now : ℕ) (old new : SeatState View) : Type 0
    where
      pub copied : SeatState View
      pub lost : SeatState View
      pub copies : GainsStrong fits d same_view IsSameView node old copied
      pub expected : seen ≡ 0
      pub loses :
          LosesTo fits d link_next TellsNothing (Field last 0) (Some node) None now copied lost
      pub drops : DropsStrong fits d node lost new

  -- It did so with the last node, which it found, and gave up again.
  pub record LosesExchange (node : SlotId) (seen now : ℕ) (old new : SeatState View) : Type 0
    where
      pub last : SlotId
      pub found : SeatState View
      pub lost : SeatState View
      pub finds : FindsEnd fits d last old found
      pub loses : LosesLink last node seen now found lost
      pub drops : DropsStrong fits d last lost new

  abbrev pub LosesLast : SlotId → ℕ → ℕ → SeatState View → SeatState View → Type 0
  LosesLast node seen now old new =
      LosesEnd seen now old new ⊎ LosesExchange node seen now old new

  -- It gave its node up then.
  pub record LosesNode (node : SlotId) (seen now : ℕ) (old new : SeatState View) : Type 0 where
    pub lost : SeatState View
    pub loses : LosesLast node seen now old lost
    pub drops : DropsStrong fits d node lost new

  -- all events of a push that was lost: the node carried a reference of its own to the item
  pub record LosesPush (item : SlotId) (seen now : ℕ) (old new : SeatState View) : Type 0 where
    pub node : SlotId
    pub loaded : SeatState View
    pub loads : LoadsNode fits d item node old loaded
    pub loses : LosesNode node seen now loaded new

  -- why nothing was pushed, and the item that is handed back
  abbrev pub IsWhyUnpushed : SlotId → PushError → SeatState View → SeatState View → Type 0
  IsWhyUnpushed item (unpushed.Again seen now back) old new = LosesPush item seen now old new
  IsWhyUnpushed item (unpushed.Refused r) old new = IsWhyRefused fits d 5 r.why old new
