-- The law of a directory.
use Rattle.std.specs.Prelude.{◌≡◌, ℕ, ◌+◌, ◌<◌, ◌≤◌, true, false, List, take, sum, Some, None}
use Rattle.plain_protocol.specs.plain_state.declared.slot.SlotId.{SlotId}
use Rattle.plain_protocol.specs.plain_state.declared.slot.PlainSlot.{PlainSlot}
use Rattle.plain_protocol.specs.plain_state.declared.slot.Stage.TheVariants.{Live}
use Rattle.plain_protocol.specs.plain_state.State.{Plain, slot_at, stage_at}
use Rattle.directory_law.specs.Payloads.{Text}
use Rattle.directory_law.specs.Views.{View, view_at, total, fresh, keeps, KeptIn}
use Rattle.directory_law.specs.Chains.{Along, Reads, OwnSlot}
use Rattle.directory_law.specs.Cells.{Area, cell, on, set_cells, SetCell, LiveRecord, Stands}
use Rattle.directory_law.specs.Learnt.{Began, Learnt}

-- how many interns the tickets that were drawn have given
abbrev pub granted : Area → Plain → ℕ
granted z p = sum (take p.tickets z.grants)

-- field 0 is null, and along field 1 there are parts and then null
abbrev pub IsChain : Plain → PlainSlot → Type 0
IsChain p x = (x.first ≡ None) × ((ts : Text) × Along p x.second ts)

-- of the cells with one text, all but the last on its walk have a slot with the zero mark
abbrev pub LastOnWalk : Area → Plain → List View → Type 0
LastOnWalk z p views =
    (k j : ℕ) (s r : SlotId) (text : Text) → k < j → j < z.cells
    → cell z p (on z text k) ≡ Some s → cell z p (on z text j) ≡ Some r
    → KeptIn views s (slot_at p s).life text → KeptIn views r (slot_at p r).life text
    → (slot_at p s).marked ≡ true

pub record DirectoryLaw (z : Area) (p : Plain) (views : List View) : Type 0 where
  pub cells : (c : ℕ) (s : SlotId) → c < z.cells → cell z p c ≡ Some s → SetCell z p views c s
  pub last : LastOnWalk z p views
  -- each live record stands in a cell
  pub bound : (s : SlotId) → LiveRecord p views s → Stands z p s
  -- set cells are at most the interns used, and these at most those given
  pub few : set_cells z p z.cells ≤ total (λ v. v.used) views
  pub quotas : total (λ v. v.quota) views ≤ sum z.interns + granted z p
  pub quota : (n : ℕ) → (view_at views n).used ≤ (view_at views n).quota
  pub shape : (s : SlotId) → OwnSlot p s → IsChain p (slot_at p s)
  -- a slot stands in field 1 of at most one of them, and then no view notes it
  pub single : (s t r : SlotId) → OwnSlot p s → OwnSlot p t
      → (slot_at p s).second ≡ Some r → (slot_at p t).second ≡ Some r → s ≡ t
  pub loose : (t s : SlotId) → OwnSlot p t → (slot_at p t).second ≡ Some s
      → fresh views s (slot_at p s).life ≡ 0
  -- notes are of lives that have begun, each noted or kept once over all views
  pub lives : (s : SlotId) (l : ℕ) → 0 < fresh views s l + keeps views s l → Began p s l
  pub once : (s : SlotId) (l : ℕ) → fresh views s l + keeps views s l ≤ 1
  -- what is kept stands in a cell, in the same life
  pub stands : (s : SlotId) (l : ℕ) → 0 < keeps views s l
      → (c : ℕ) × (c < z.cells) × (cell z p c ≡ Some s) × ((slot_at p s).life ≡ l)
  pub learnt : (n : ℕ) → Learnt z p views (view_at views n)

-- s stands in a cell, lives without a zero mark, and has this text
pub record IsBound (z : Area) (p : Plain) (text : Text) (s : SlotId) : Type 0 where
  pub stands : Stands z p s
  pub stage : stage_at p s ≡ Live
  pub mark : (slot_at p s).marked ≡ false
  pub reads : Reads p s text

-- no cell holds such a slot
abbrev pub NoneBound : Area → Plain → Text → Type 0
NoneBound z p text = (s : SlotId) → IsBound z p text s → ⊥
