-- A lane's seat before it begins, and once it takes part in the queue.
use Rattle.std.specs.Prelude.{ℕ, ◌≡◌, true, List, []}
use Rattle.lane_files.specs.cdrc_text.Tally.{count_of, total_of}
use Rattle.lane_files.specs.plain_state.declared.slot.SlotId.{SlotId}
use Rattle.lane_files.specs.plain_state.Lists.{times}
use Rattle.lane_files.specs.core_events.Steps.{HasRoom}
use Rattle.lane_files.specs.core_events.Views.{no_notes}
use Rattle.lane_files.specs.acquire_retire.Domains.{DomainState}
use Rattle.lane_files.specs.acquire_retire.Seats.{SeatState}
use Rattle.lane_files.specs.control_word.Resting.{IsAtRest}
use Rattle.lane_files.specs.directory_law.Views as directory
use Rattle.lane_files.specs.directory_calls.Directories.{IsOver}
use Rattle.lane_files.specs.linked_queue.Attaching.{attached_in}
use Rattle.lane_files.specs.linked_queue.Leaving.{Leaves}
use Rattle.lane_files.specs.hand_queues.Queues.{IsAnyOf}
use Rattle.lane_files.specs.linked_queue.Waits.{AttachesAtLast}
use Rattle.lane_files.specs.words_law.Views.{View}
use Rattle.lane_files.specs.words_protocol.declared.law.WordsLaw.{WordsLaw}
use Rattle.lane_files.specs.declared.shared.Shared.{Shared}
use Rattle.lane_files.specs.Whys.{of_queue, queue_of}
use Rattle.lane_files.specs.lane_work.declared.lane.Lane.{Lane}

-- The seat owns nothing and announces nothing, has drawn no ticket, and has pushed and popped nothing. It has no
-- intern, and knows nothing of the directory.
pub record HasDoneNothing (seat : SeatState View) : Type 0 where
  pub owned : (x : SlotId) → times x seat.view.core.owned ≡ 0
  pub weaks : seat.view.core.weaks ≡ []
  pub notes : seat.view.core.notes ≡ no_notes
  pub tickets : seat.view.core.tickets ≡ []
  pub left_seats : seat.view.core.left_seats ≡ []
  pub pushed : seat.view.client.0.pushed ≡ []
  pub popped : seat.view.client.0.popped ≡ []
  pub directory : seat.view.client.1 ≡ directory.gone

-- it is a seat of a domain with this queue and this directory, hasn't left, and has done nothing
pub record CanBegin (d : DomainState WordsLaw) (on : Shared) (seat : SeatState View) : Type 0 where
  pub rest : IsAtRest d seat
  pub room : HasRoom seat.view.core
  pub queue : IsAnyOf on.queue (queue_of d)
  pub over : IsOver d d.protocol.pair.right on.directory
  pub here : seat.view.client.0.here ≡ true
  pub nothing : HasDoneNothing seat

-- The seat has looked at the head cell until it found a slot there, and takes part in the queue. It has done nothing
-- else.
pub record Attaches (fits : List ℕ → Type 0) (d : DomainState WordsLaw) (seat begun : SeatState View)
    : Type 0 where
  pub looks : AttachesAtLast fits (queue_of d) (of_queue seat) (of_queue begun)
  pub client :
      begun.view.client ≡ (attached_in seat.view.client.0, seat.view.client.1)
  pub leaves : Leaves seat.view.core.owned (of_queue seat) (of_queue begun)
  pub makes : begun.view.core.makes ≡ seat.view.core.makes
  pub nothing : HasDoneNothing begun

-- a lane of this number that has counted nothing and keeps nothing
pub record IsNewLane (n : ℕ) (lane : Lane) : Type 0 where
  pub number : lane.number ≡ n
  pub turn : lane.turn ≡ 0
  pub counts : (w : List ℕ) → count_of lane.tally w ≡ 0
  pub total : total_of lane.tally ≡ 0
  pub kept : lane.keeper.kept.items ≡ []
