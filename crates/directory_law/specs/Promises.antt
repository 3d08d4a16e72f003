-- What a directory promises, read off the plain state and the views.
use Rattle.std.specs.Prelude.{◌≡◌, ℕ, zero, suc, ◌+◌, ◌<◌, ◌≤◌, List, [], ◌∷◌, sum, Some, None}
use Rattle.plain_protocol.specs.plain_state.declared.slot.SlotId.{SlotId}
use Rattle.plain_protocol.specs.plain_state.declared.slot.Stage.TheVariants.{Live}
use Rattle.plain_protocol.specs.plain_state.State.{Plain, slot_at, stage_at}
use Rattle.plain_protocol.specs.Calm.{IsMade}
use Rattle.directory_law.specs.Payloads.{Text, size, IsHead, IsPart}
use Rattle.directory_law.specs.Views.{Ran, View, total, keeps, KeptIn}
use Rattle.directory_law.specs.Chains.{Reads, OwnSlot}
use Rattle.directory_law.specs.Cells.{Area, cell, set_cells, IsOnWay, LiveRecord}
use Rattle.directory_law.specs.Law.{granted, LastOnWalk}

-- s stands in a cell on the way of a text that a view keeps for it: every cell from the text's place to there is set
abbrev pub StandsAt : Area → Plain → List View → SlotId → Text → Type 0
StandsAt z p views s text =
    (c : ℕ) × (c < z.cells) × (cell z p c ≡ Some s) × KeptIn views s (slot_at p s).life text
    × IsOnWay z p text c

-- a set cell: its slot is a head, alive or not. It has one text, which the slot has wherever that can be read: as
-- long as it lives, and for ever where it has at most 120 bytes
pub record IsSetCell (z : Area) (p : Plain) (views : List View) (c : ℕ) (s : SlotId)
    : Type 0 where
  pub made : IsMade (stage_at p s)
  pub head : IsHead (slot_at p s).payload
  pub text : Text
  pub kept : KeptIn views s (slot_at p s).life text
  pub one : (t : Text) → KeptIn views s (slot_at p s).life t → t ≡ text
  pub way : IsOnWay z p text c
  pub live : stage_at p s ≡ Live → Reads p s text
  pub short : size (slot_at p s).payload ≤ 120 → text ≡ (slot_at p s).payload ∷ []

-- each text has at most one live record, which stands in a cell of its text; of the cells with that text all but the
-- last on its walk have a slot with the zero mark
pub record OneRecord (z : Area) (p : Plain) (views : List View) : Type 0 where
  pub stands : (s : SlotId) (text : Text) → LiveRecord p views s → Reads p s text
      → StandsAt z p views s text
  pub one : (s r : SlotId) (text : Text) → LiveRecord p views s → LiveRecord p views r
      → Reads p s text → Reads p r text → s ≡ r
  pub last : LastOnWalk z p views

-- set cells are at most the interns used, and these at most those given
pub record WithinInterns (z : Area) (p : Plain) (views : List View) : Type 0 where
  pub cells : set_cells z p z.cells ≤ total (λ v. v.used) views
  pub used : total (λ v. v.used) views ≤ sum z.interns + granted z p

-- from s along field 1, t is reached after n slots between
abbrev pub Reaches : Plain → SlotId → SlotId → ℕ → Type 0
Reaches p s t zero = (slot_at p s).second ≡ Some t
Reaches p s t (suc n) = (x : SlotId) × ((slot_at p s).second ≡ Some x) × Reaches p x t n

-- strong fields of the directory's slots lead to its parts alone, each part stands once, and no slot reaches itself
pub record PartsStandOnce (z : Area) (p : Plain) : Type 0 where
  pub first : (t : SlotId) → OwnSlot p t → (slot_at p t).first ≡ None
  pub second : (t s : SlotId) → OwnSlot p t → (slot_at p t).second ≡ Some s
      → OwnSlot p s × IsPart (slot_at p s).payload × (stage_at p s ≡ Live)
  pub once : (t u s : SlotId) → OwnSlot p t → OwnSlot p u → (slot_at p t).second ≡ Some s
      → (slot_at p u).second ≡ Some s → t ≡ u
  pub in_no_cell : (c : ℕ) (s : SlotId) → c < z.cells → cell z p c ≡ Some s
      → ¬ (IsPart (slot_at p s).payload)
  pub acyclic : (s : SlotId) (n : ℕ) → OwnSlot p s → ¬ (Reaches p s s n)

-- the text has no live record
abbrev pub NoLive : Plain → List View → Text → Type 0
NoLive p views text = (s : SlotId) → LiveRecord p views s → Reads p s text → ⊥

-- a head whose text is kept, in the life that it is in
abbrev pub IsKept : Plain → List View → SlotId → Type 0
IsKept p views s = 0 < keeps views s (slot_at p s).life

-- its text was read up to the head
abbrev pub at_head : Plain → SlotId → Ran
at_head p s = record {
  slot = s;
  life = (slot_at p s).life;
  before = (slot_at p s).payload ∷ [];
  now = s;
  now_life = (slot_at p s).life;
}

-- the view of a seat that begins to read it
abbrev pub begins_at : Plain → SlotId → View → View
begins_at p s v = record v { ran = at_head p s ∷ v.ran }
