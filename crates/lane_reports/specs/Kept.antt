-- In which lives a seat has its slots.
use Rattle.std.specs.Prelude.{ℕ}
use Rattle.law_lesson.specs.plain_state.declared.slot.SlotId.{SlotId}
use Rattle.domain_audit.specs.domain_rule.Views.{object_in}
use Rattle.domain_audit.specs.acquire_retire.Seats.{SeatState}
use Rattle.words_rest.specs.words_law.Views.{View}

-- in which life the seat has each slot
abbrev pub lives_in : SeatState View → SlotId → ℕ
lives_in seat s = (object_in seat.view s).life
