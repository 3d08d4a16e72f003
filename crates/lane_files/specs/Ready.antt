-- What a seat needs to count words, and what a call leaves of it.
use Rattle.std.specs.Prelude.{◌≡◌, ◌≤◌, ℕ, List}
use Rattle.control_word.specs.plain_state.declared.slot.SlotId.{SlotId}
use Rattle.control_word.specs.plain_state.Lists.{times}
use Rattle.control_word.specs.core_events.Steps.{HasRoom}
use Rattle.control_word.specs.core_events.Views.{Holds}
use Rattle.control_word.specs.domain_rule.Views.{object_in}
use Rattle.control_word.specs.acquire_retire.Domains.{DomainState}
use Rattle.control_word.specs.acquire_retire.Seats.{SeatState}
use Rattle.control_word.specs.Resting.{IsAtRest}
use Rattle.words_protocol.specs.directory_law.Views.{In}
use Rattle.words_protocol.specs.queue_law.Lists.{taken_items}
use Rattle.hand_queues.specs.part_calls.Parts.{as_part}
use Rattle.weak_intern.specs.directory_calls.Directories.{HasQuota, IsOver}
use Rattle.weak_intern.specs.directory_calls.Steps.{aside}
use Rattle.weak_intern.specs.text_reading.Reading.{HasTwoFree}
use Rattle.hand_queues.specs.Queues.{IsAnyOf}
use Rattle.hand_queues.specs.linked_queue.Queues.{IsAttached}
use Rattle.words_protocol.specs.words_law.Views.{View}
use Rattle.words_protocol.specs.declared.law.WordsLaw.{WordsLaw}
pub use Rattle.lane_files.specs.declared.shared.Shared.{Shared}
use Rattle.lane_files.specs.Scans.{scans_of}

-- the seat is at rest in a domain with this queue and this directory, and takes part in the queue
pub record IsReady (d : DomainState WordsLaw) (on : Shared) (seat : SeatState View) : Type 0 where
  pub rest : IsAtRest d seat
  pub room : HasRoom seat.view.core
  pub queue : IsAnyOf on.queue (as_part (λ (it : WordsLaw). it.pair.left) d)
  pub over : IsOver d d.protocol.pair.right on.directory
  pub attached : IsAttached seat.view.client.0
  pub quota : HasQuota seat.view.client.1
  pub free : HasTwoFree seat.view.core

-- the seat popped s, in the life in which it has it
abbrev pub HasPoppedIn : SlotId → SeatState View → Type 0
HasPoppedIn s seat =
    (payload : List ℕ)
    × In (record { slot = s.0; life = (object_in seat.view s).life; payload = payload })
    (taken_items seat.view.client.0.popped)

-- The seat owns these references strongly, and weakly what it owned, in some order. What it has beside is as it was,
-- and so is what it knows of the objects that it held and still holds. It has made no fewer whole scans.
pub record Owns (owned : List SlotId) (old new : SeatState View) : Type 0 where
  pub strongly : (x : SlotId) → times x new.view.core.owned ≡ times x owned
  pub weakly : (x : SlotId) → times x new.view.core.weaks ≡ times x old.view.core.weaks
  pub same : aside new.view.core ≡ aside old.view.core
  pub knows :
      (x : SlotId) → Holds old.view.core x → Holds new.view.core x
      → object_in new.view x ≡ object_in old.view x
  pub scans : scans_of old ≤ scans_of new
