-- What a seat leaves that has cleared the cells.
use Rattle.std.specs.Prelude.{◌≡◌, ◌<◌, true, Some}
use Rattle.cell_intern.specs.cell_calls.cell_law.declared.view.View.{View}
use Rattle.cell_intern.specs.cell_calls.cell_law.plain_state.declared.slot.SlotId.{SlotId}
use Rattle.cell_intern.specs.cell_calls.cell_law.plain_state.Lists.{times}
use Rattle.cell_intern.specs.cell_calls.cell_law.plain_state.State.{Plain}
use Rattle.cell_rest.specs.Rest.{HasNullCells}
use Rattle.cell_intern.specs.epoch_refs.epoch_domain.Seats.{SeatState}
use Rattle.cell_intern.specs.epoch_refs.epoch_rule.Views.{object_in, own_of}

-- in the whole state, where the seat knows it, all cells are null
abbrev pub KnowsNull : SeatState View → Type 0
KnowsNull seat = (p : Plain) → (own_of seat.view).whole ≡ Some p → HasNullCells p

-- All cells are null. The seat has what it had, but for what is pending and its trail; its view says that it has
-- cleared cells, and what it said. Of the objects that it owns it knows what it knew.
pub record ClearsCells (old new : SeatState View) : Type 0 where
  pub null : KnowsNull new
  pub core :
      new.view.core
      ≡ record old.view.core { pending = new.view.core.pending; trail = new.view.core.trail }
  pub client : new.view.client ≡ record old.view.client { cleared = true }
  pub objects :
      (x : SlotId) → 0 < times x old.view.core.owned
      → object_in new.view x ≡ object_in old.view x
