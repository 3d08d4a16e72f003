-- What foreign steps leave of a state: all that a law may rest on, beside a pair's other law.
use Rattle.std.specs.Prelude.{ℕ, ◌≡◌, ◌⊎◌, ◌<◌, ◌≤◌, List, slice_index_or, None}
use Rattle.plain_protocol.specs.plain_state.declared.slot.PlainSlot.{PlainSlot}
use Rattle.plain_protocol.specs.plain_state.declared.slot.SlotId.{SlotId}
use Rattle.plain_protocol.specs.plain_state.declared.slot.Stage.TheVariants.{Live}
use Rattle.plain_protocol.specs.plain_state.State.{Plain, slot_at}
use Rattle.plain_protocol.specs.Acts.{Owned}

-- a slot before and after
pub record IsUntouchedAs (owned : List ℕ → Type 0) (x y : PlainSlot) : Type 0 where
  pub life : x.life ≤ y.life
  -- what lives keeps its life and its payload, and its fields if it is owned
  pub kept : x.stage ≡ Live → (y.life ≡ x.life) × (y.payload ≡ x.payload)
  pub fields :
      x.stage ≡ Live → owned x.payload
      → (y.first ≡ x.first) × (y.second ≡ x.second) × (y.weak_field ≡ x.weak_field)
  -- what comes to life begins a new life, and isn't owned
  pub live : y.stage ≡ Live → (x.stage ≡ Live) ⊎ ((x.life < y.life) × ¬ (owned y.payload))

-- a state before and after
pub record IsUntouched (owned : Owned) (p q : Plain) : Type 0 where
  pub cells :
      (i : ℕ) → owned.cell i → slice_index_or q.cells i None ≡ slice_index_or p.cells i None
  pub weak_cells :
      (i : ℕ) → owned.weak_cell i
      → slice_index_or q.weak_cells i None ≡ slice_index_or p.weak_cells i None
  pub tickets : owned.tickets → q.tickets ≡ p.tickets
  pub slots : (s : SlotId) → IsUntouchedAs owned.payload (slot_at p s) (slot_at q s)
