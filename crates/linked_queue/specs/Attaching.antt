-- What a seat finds that asks to take part in a queue.
use Rattle.std.specs.Prelude.{◌≡◌, Bool, true, false, [], ◌∷◌, Option, Some, None, ℕ, List}
use Rattle.queue_protocol.specs.plain_state.declared.act.EventPlace.TheVariants.{Cell}
use Rattle.queue_protocol.specs.plain_state.declared.slot.SlotId.{SlotId}
use Rattle.queue_protocol.specs.plain_state.Places.{content}
use Rattle.slot_store.specs.core_events.declared.act.Act.TheVariants as act
use Rattle.slot_store.specs.core_events.declared.outcome.Outcome.TheVariants as outcome
use Rattle.slot_store.specs.core_events.Shows.{shows}
use Rattle.slot_store.specs.acquire_retire.Collecting.{move}
use Rattle.slot_store.specs.acquire_retire.Domains.{DomainState}
use Rattle.slot_store.specs.acquire_retire.Seats.{SeatState}
use Rattle.slot_store.specs.control_word.Moves.{Becomes, last_core}
use Rattle.queue_protocol.specs.queue_law.Lessons.{AttachTells, attach_next}
use Rattle.queue_protocol.specs.queue_law.declared.view.View.{View}
use Rattle.queue_protocol.specs.declared.law.QueueLaw.{QueueLaw}
use Rattle.linked_queue.specs.Queues.{ends_of}

abbrev pub attached_in : View → View
attached_in v = record v { attached = true }

abbrev pub is_slot : Option SlotId → Bool
is_slot None = false
is_slot (Some s) = true

-- by one look the seat found this in the head cell, as the domain showed it then
pub record LooksAtHead (fits : List ℕ → Type 0) (d : DomainState QueueLaw) (found : Option SlotId)
    (old new : SeatState View) : Type 0 where
  pub becomes :
      Becomes fits d attach_next (AttachTells (ends_of d))
      (move (act.Look (Cell d.protocol.head)) (outcome.Found found) ∷ []) old.view.core old new
  pub there : content (shows d.shape (last_core becomes)) (Cell d.protocol.head) ≡ found
