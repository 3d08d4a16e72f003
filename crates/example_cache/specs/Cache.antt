-- The law of a cache: its weak cell holds the object of the value that was remembered last. The cache doesn't keep the
-- object alive, but its slot is given to no other one as long as the cell holds it.
use Rattle.std.specs.Prelude.{ℕ, ◌≡◌, List, slice_index_or, Some, None}
use Rattle.cdrc.specs.plain_state.declared.slot.SlotId.{SlotId}
use Rattle.cdrc.specs.plain_state.State.{Plain, slot_at, stage_at}
use Rattle.cdrc.specs.plain_protocol.Acts.{Owned}
use Rattle.cdrc.specs.plain_protocol.Calm.{IsMade}
use Rattle.example_cache.specs.Views.{View, WasRecalled, WasRemembered}

-- the weak cell holds this slot
abbrev pub Holds : ℕ → Plain → SlotId → Type 0
Holds cell p s = slice_index_or p.weak_cells cell None ≡ Some s

pub record Cache (cell : ℕ) (p : Plain) (views : List View) : Type 0 where
  -- what the cell holds is an object, alive or not, and its value was remembered
  pub held :
      (s : SlotId) → Holds cell p s
      → IsMade (stage_at p s) × WasRemembered views (slot_at p s).payload
  -- what a seat recalled was remembered
  pub recalled : (value : List ℕ) → WasRecalled views value → WasRemembered views value

-- the weak cell, and nothing else
abbrev pub owns : ℕ → Owned
owns cell = record {
  cell = λ i. ⊥;
  weak_cell = λ i. i ≡ cell;
  payload = λ words. ⊥;
  tickets = ⊥;
}
