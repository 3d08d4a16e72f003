-- The law of records in strong cells.
use Rattle.std.specs.Prelude.{◌≡◌, ◌≢◌, ◌⊎◌, ℕ, ◌<◌, ◌≤◌, true, List, [], ◌∷◌, length, sum, Option, Some}
use Rattle.plain_protocol.specs.plain_state.declared.slot.SlotId.{SlotId}
use Rattle.plain_protocol.specs.plain_state.State.{Plain, seat_at, slot_at}
use Rattle.directory_law.specs.declared.view.Rope.{Rope}
use Rattle.directory_law.specs.Payloads.{Text}
use Rattle.directory_law.specs.Views.{Each, In}
use Rattle.directory_law.specs.Cells.{Area}
use Rattle.directory_law.specs.Law.{DirectoryLaw}
use Rattle.cell_law.specs.Views.{Sight, View, gone, view_at, bound_in, BoundIn, IsOpen, IsWord, makers, shares, sight}
use Rattle.cell_law.specs.Cells.{cell, no_cells, SetCell}

-- from a place on, along field 1, these slots stand one after the other
abbrev pub Follows : Plain → Option SlotId → List SlotId → Type 0
Follows p place [] = Unit {0}
Follows p place (s ∷ ss) = (place ≡ Some s) × Follows p (slot_at p s).second ss

-- until cells are cleared, a cell goes on to hold the record that was seen there
abbrev pub Saw : Area → Plain → List View → Sight → Type 0
Saw z p views e = (e.cell < z.cells) × (IsOpen views → Follows p (cell z p e.cell) e.slots)

-- the view has seen the head in a cell
abbrev pub SawBound : View → Rope → Type 0
SawBound v e = (c : ℕ) × In (sight c e.slot) v.seen

pub record Learnt (z : Area) (p : Plain) (views : List View) (v : View) : Type 0 where
  pub texts : Each (λ (e : Rope). IsWord e.text) (bound_in v)
  pub seen : Each (Saw z p views) v.seen
  pub found : Each (λ (e : Rope). BoundIn views e.slot e.life e.text) v.found
  pub own : Each (SawBound v) v.bound

-- seat m has left, or never was
abbrev pub HasLeft : Plain → ℕ → Type 0
HasLeft p m = (length p.seats ≤ m) ⊎ ((seat_at p m).left ≡ true)

pub record CellLaw (z : Area) (p : Plain) (views : List View) : Type 0 where
  -- Slots are made and linked as a directory without cells has it. There no head is ever bound, so that law goes on to
  -- note it: each life once over all views, with the text that is read from it as long as it lives
  pub records : DirectoryLaw no_cells p (makers views)
  pub cells : (c : ℕ) (s : SlotId) → c < z.cells → cell z p c ≡ Some s → SetCell z p views c s
  pub single : (c d : ℕ) (s : SlotId) → c < z.cells → d < z.cells
      → cell z p c ≡ Some s → cell z p d ≡ Some s → c ≡ d
  -- until cells are cleared, what views list as bound stands in a cell, in the same life
  pub stands : IsOpen views → (s : SlotId) (l : ℕ) (text : Text) → BoundIn views s l text
      → (c : ℕ) × (c < z.cells) × (cell z p c ≡ Some s) × ((slot_at p s).life ≡ l)
  -- one text has one head
  pub apart : (s r : SlotId) (l k : ℕ) (text : Text) → BoundIn views s l text
      → BoundIn views r k text → (s ≡ r) × (l ≡ k)
  pub learnt : (n : ℕ) → Learnt z p views (view_at views n)
  -- no seat has bound more heads than it may; and what seats may bind is, with the heads of those that have left, at
  -- most all that was granted
  pub granted : (n : ℕ) → length (view_at views n).bound ≤ (view_at views n).grant
  pub room : shares views ≤ sum z.interns
  pub left : (m : ℕ) → HasLeft p m → view_at views m ≡ gone
  -- who clears is alone
  pub alone : (view_at views 0).cleared ≡ true → (m : ℕ) → m ≢ 0 → HasLeft p m
