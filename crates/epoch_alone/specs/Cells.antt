-- What becomes of the cells of a whole state.
use Rattle.std.specs.Prelude.{ℕ, ◌≡◌, ◌≢◌, ◌<◌, length, None}
use Rattle.epoch_refs.specs.plain_protocol.plain_state.declared.act.EventPlace.TheVariants.{Cell}
use Rattle.epoch_refs.specs.plain_protocol.plain_state.declared.slot.SlotId.{SlotId}
use Rattle.epoch_refs.specs.plain_protocol.plain_state.Lists.{times}
use Rattle.epoch_refs.specs.plain_protocol.plain_state.Places.{content}
use Rattle.epoch_refs.specs.plain_protocol.plain_state.State.{Plain}
use Rattle.epoch_refs.specs.epoch_domain.Seats.{SeatState}
use Rattle.epoch_refs.specs.epoch_rule.Views.{object_in}
use Rattle.epoch_alone.specs.Lone.{KnowsBoth}

-- each cell holds what it held
abbrev pub HaveSameCells : Plain → Plain → Type 0
HaveSameCells p q = q.cells ≡ p.cells

-- cell i, which is there, is null, and each other cell holds what it held
pub record HasOneCleared (i : ℕ) (p q : Plain) : Type 0 where
  pub count : length q.cells ≡ length p.cells
  pub there : i < length p.cells
  pub null : content q (Cell i) ≡ None
  pub others : (j : ℕ) → j ≢ i → content q (Cell j) ≡ content p (Cell j)

-- The seat has cleared cell i in the whole state that it knows. It has what it had, but for what is pending and its
-- trail, and knows what it knew of the objects that it owns.
pub record ClearsCell {V : Type 0} (i : ℕ) (old new : SeatState V) : Type 0 where
  pub cells : KnowsBoth (HasOneCleared i) old.view new.view
  pub core :
      new.view.core
      ≡ record old.view.core { pending = new.view.core.pending; trail = new.view.core.trail }
  pub objects :
      (x : SlotId) → 0 < times x old.view.core.owned
      → object_in new.view x ≡ object_in old.view x
