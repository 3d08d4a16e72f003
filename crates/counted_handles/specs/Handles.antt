-- What callers see of a handle.
use Rattle.plain_state.specs.declared.slot.SlotId.{SlotId}

-- the slot that it names
pub record Handle : Type 0 where
  pub slot : SlotId
