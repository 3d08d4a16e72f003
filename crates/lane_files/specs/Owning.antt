-- What a seat owns that owns no node of the queue.
use Rattle.std.specs.Prelude.{ℕ, ◌≡◌, ◌<◌, List}
use Rattle.control_word.specs.plain_state.declared.slot.SlotId.{SlotId}
use Rattle.control_word.specs.plain_state.Lists.{times}
use Rattle.control_word.specs.acquire_retire.Seats.{SeatState}
use Rattle.weak_intern.specs.Knowing.{KnowsRecord}
use Rattle.words_protocol.specs.words_law.Views.{View}

-- The seat owns no node: it owns nothing weakly, and each slot that it owns strongly has the record of a word, which it
-- knows.
pub record OwnsNoNode (seat : SeatState View) : Type 0 where
  pub strongly :
      (s : SlotId) → 0 < times s seat.view.core.owned
      → (word : List ℕ) × KnowsRecord (λ (v : View). v.1) word s seat
  pub weakly : (s : SlotId) → times s seat.view.core.weaks ≡ 0
