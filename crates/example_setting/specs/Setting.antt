-- The law of a setting: a value is the payload of an object, and the cell holds the value that was stored last.
use Rattle.std.specs.Prelude.{ℕ, ◌≡◌, List, Contains, slice_index_or, Some, None}
use Rattle.cdrc.specs.plain_state.declared.slot.SlotId.{SlotId}
use Rattle.cdrc.specs.plain_state.State.{Plain, slot_at}
use Rattle.cdrc.specs.plain_protocol.Acts.{Owned}
use Rattle.example_setting.specs.Views.{View, view_at}

-- some seat stored this value
abbrev pub WasStored : List View → List ℕ → Type 0
WasStored views value = (n : ℕ) × Contains (view_at views n).stored value

-- the cell holds this slot
abbrev pub Holds : Plain → ℕ → SlotId → Type 0
Holds p cell s = slice_index_or p.cells cell None ≡ Some s

pub record Setting (cell : ℕ) (p : Plain) (views : List View) : Type 0 where
  -- what the cell holds was stored
  pub held : (s : SlotId) → Holds p cell s → WasStored views (slot_at p s).payload
  -- what a seat read was stored
  pub read :
      (n : ℕ) (value : List ℕ) → Contains (view_at views n).read value
      → WasStored views value

-- the cell, and nothing else
abbrev pub owns : ℕ → Owned
owns cell = record {
  cell = λ i. i ≡ cell;
  weak_cell = λ i. ⊥;
  payload = λ words. ⊥;
  tickets = ⊥;
}
