-- Which seat has found each slot taken.
use Rattle.std.specs.Prelude.{ℕ, ◌≡◌, ◌<◌, ◌≤◌, List, ◌++◌, length}
use Rattle.control_word.specs.plain_state.declared.slot.SlotId.{SlotId}
use Rattle.control_word.specs.core_events.declared.shape.Shape.{Shape}
use Rattle.control_word.specs.core_events.declared.view.Move.{Move}
use Rattle.control_word.specs.acquire_retire.Seats.{SeatState}
use Rattle.hand_queues.specs.slot_store.Searching.{AreInTurn, IsShownTaken, Try, taken_by}
use Rattle.words_protocol.specs.words_law.Views.{View}

-- The trail of the seat shows a search for a free slot that found none: it tried slots, each in its turn, and each slot
-- of the domain was shown taken.
pub record HasMissed (z : Shape) (seat : SeatState View) : Type 0 where
  pub before : List Move
  pub tries : List Try
  pub later : List Move
  pub trail : seat.view.core.trail ≡ before ++ (taken_by tries ++ later)
  pub in_turn : AreInTurn z tries
  pub few : length tries ≤ z.slots
  pub all_taken : (s : SlotId) → s.0 < z.slots → IsShownTaken s tries
