-- What calm steps leave of a state: all that a client's law may rest on.
use Rattle.std.specs.Prelude.{ℕ, ◌≡◌, ◌≢◌, ◌⊎◌, ◌<◌, true, false, Option, None}
use Rattle.plain_state.specs.declared.slot.PlainSlot.{PlainSlot}
use Rattle.plain_state.specs.declared.slot.SlotId.{SlotId}
use Rattle.plain_state.specs.declared.slot.Stage.{Stage}
use Rattle.plain_state.specs.declared.slot.Stage.TheVariants.{Free, Blank, Live}
use Rattle.plain_state.specs.Lists.{cell_times}
use Rattle.plain_state.specs.State.{Plain, slot_at}

-- the slot has an object, alive or not
abbrev pub IsMade : Stage → Type 0
IsMade g = (g ≢ Free) × (g ≢ Blank)

-- a field holds what it held, or null
abbrev pub StaysOrNull : Option SlotId → Option SlotId → Type 0
StaysOrNull before after = (after ≡ before) ⊎ (after ≡ None)

-- a slot before and after, which so many weak cells hold
pub record IsKeptAs (refs : ℕ) (x y : PlainSlot) : Type 0 where
  pub life : y.life ≡ x.life
  -- a mark stays; no object comes to life; one that lives goes on, or gets its mark
  pub mark : x.marked ≡ true → y.marked ≡ true
  pub live : y.stage ≡ Live → x.stage ≡ Live
  pub ends : x.stage ≡ Live → y.marked ≡ false → y.stage ≡ Live
  -- what lives keeps its payload and its fields
  pub payload : x.stage ≡ Live → y.payload ≡ x.payload
  pub fields :
      x.stage ≡ Live
      → (y.first ≡ x.first) × (y.second ≡ x.second) × (y.weak_field ≡ x.weak_field)
  -- what a weak cell holds goes on to be an object, with its payload
  pub held : 0 < refs → IsMade x.stage → IsMade y.stage × (y.payload ≡ x.payload)
  -- an object was one before, with its payload; its fields hold what they held, or null
  pub made :
      IsMade y.stage
      → IsMade x.stage × (y.payload ≡ x.payload) × StaysOrNull x.first y.first
      × StaysOrNull x.second y.second × StaysOrNull x.weak_field y.weak_field

-- what it leaves of a state: every cell, the tickets, and so much of every slot
pub record IsCalmed (p q : Plain) : Type 0 where
  pub cells : q.cells ≡ p.cells
  pub weak_cells : q.weak_cells ≡ p.weak_cells
  pub tickets : q.tickets ≡ p.tickets
  pub slots : (s : SlotId) → IsKeptAs (cell_times s p.weak_cells) (slot_at p s) (slot_at q s)
