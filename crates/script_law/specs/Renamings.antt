-- New names for the slots of a heap, one to one.
use Rattle.std.specs.Prelude.{ℕ, ◌≡◌, ◌<◌, Option, Some, None}
use Rattle.script_desk.specs.plain_state.declared.slot.SlotId.{SlotId}

-- `to` gives each slot its new name, and `from` leads back; the first n slots are named among themselves
pub record IsRenaming (n : ℕ) (to from : SlotId → SlotId) : Type 0 where
  pub back : (s : SlotId) → from (to s) ≡ s
  pub forth : (s : SlotId) → to (from s) ≡ s
  pub inside : (s : SlotId) → s.0 < n → (to s).0 < n
  pub inside_back : (s : SlotId) → s.0 < n → (from s).0 < n

-- what a place holds, by the new names
abbrev pub renamed : (SlotId → SlotId) → Option SlotId → Option SlotId
renamed to None = None
renamed to (Some s) = Some (to s)
