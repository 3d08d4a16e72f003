-- In which lives a seat knows the records of which its view tells.
use Rattle.std.specs.Prelude.{ℕ, ◌≡◌, ◌<◌}
use Rattle.cell_intern.specs.cell_calls.cell_law.declared.view.View.{View}
use Rattle.cell_intern.specs.cell_calls.cell_law.directory_law.Payloads.{Text}
use Rattle.cell_intern.specs.cell_calls.cell_law.directory_law.Views.{In, rope}
use Rattle.cell_intern.specs.cell_calls.cell_law.plain_state.declared.slot.SlotId.{SlotId}
use Rattle.cell_intern.specs.cell_calls.cell_law.plain_state.Lists.{times}
use Rattle.cell_rest.specs.Kept.{told_by}
use Rattle.cell_intern.specs.epoch_refs.epoch_domain.Seats.{SeatState}
use Rattle.cell_intern.specs.epoch_refs.epoch_rule.Views.{object_in}

-- what the view tells of a slot that the seat owns, it tells of the life in which the seat has that slot
abbrev pub KnowsLives : SeatState View → Type 0
KnowsLives seat =
    (s : SlotId) → 0 < times s seat.view.core.owned → (life : ℕ) (text : Text)
    → In (rope s life text) (told_by seat.view.client)
    → (object_in seat.view s).life ≡ life
