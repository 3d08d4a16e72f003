-- What a seat keeps of the slots that it has ended and not yet destroyed.
use Rattle.std.specs.Prelude.{ℕ, List}
use Rattle.epoch_core.specs.plain_state.declared.slot.SlotId.{SlotId}

-- in order, and for how many there is room
pub record EndedSlots : Type 0 where
  pub slots : List SlotId
  pub room : ℕ
