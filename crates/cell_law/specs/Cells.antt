-- The cells that hold records, the walk of a text over them, and how many heads each seat may put there.
use Rattle.std.specs.Prelude.{◌≡◌, ◌≢◌, ℕ, ◌+◌, ◌<◌, ◌≤◌, List, [], Option, Some, None, slice_index_or, sum}
use Rattle.plain_protocol.specs.plain_state.declared.act.EventPlace.TheVariants.{Cell}
use Rattle.plain_protocol.specs.plain_state.declared.slot.SlotId.{SlotId}
use Rattle.plain_protocol.specs.plain_state.declared.slot.Stage.TheVariants.{Live}
use Rattle.plain_protocol.specs.plain_state.State.{Plain, slot_at, stage_at}
use Rattle.plain_protocol.specs.plain_state.Places.{content}
use Rattle.directory_law.specs.declared.view.GivenTo.TheVariants.{Seats}
use Rattle.directory_law.specs.Payloads.{Text, IsText}
use Rattle.directory_law.specs.Chains.{Reads}
use Rattle.directory_law.specs.Cells.{Area, area, on}
use Rattle.cell_law.specs.Views.{View, BoundIn, IsOpen, MayBind, TellsNone}

-- a range of strong cells: its first cell, how many they are, and how many heads each seat may put there
abbrev pub range : ℕ → ℕ → List ℕ → Area
range first cells grants = area first cells grants Seats

-- a directory without cells
abbrev pub no_cells : Area
no_cells = range 0 0 []

-- how many heads seat n may put there
abbrev pub grant : Area → ℕ → ℕ
grant z n = slice_index_or z.interns n 0

-- all that was granted was granted to the seat of this view
abbrev pub BindsAlone : Area → View → Type 0
BindsAlone z v = v.grant ≡ sum z.interns

-- what cell c of the range holds
abbrev pub cell : Area → Plain → ℕ → Option SlotId
cell z p c = content p (Cell (z.first + c))

-- a cell of the range holds s
abbrev pub Stands : Area → Plain → SlotId → Type 0
Stands z p s = (c : ℕ) × (c < z.cells) × (cell z p c ≡ Some s)

-- the first k cells of a text's walk are set
abbrev pub SetBefore : Area → Plain → Text → ℕ → Type 0
SetBefore z p text k = (j : ℕ) → j < k → cell z p (on z text j) ≢ None

-- every cell from the text's place, around the end, to c is set
abbrev pub IsOnWay : Area → Plain → Text → ℕ → Type 0
IsOnWay z p text c = (k : ℕ) × (k < z.cells) × (c ≡ on z text k) × SetBefore z p text k

-- cell c holds s: a view lists it as bound in the life that it is in, with a text; and until cells are cleared the cell
-- is on the way of that text
pub record SetCell (z : Area) (p : Plain) (views : List View) (c : ℕ) (s : SlotId) : Type 0 where
  pub text : Text
  pub bound : BoundIn views s (slot_at p s).life text
  pub way : IsOpen views → IsOnWay z p text c

-- s is a record with this text: it lives, stands in a cell, and the text is read from it along field 1
pub record IsRecord (z : Area) (p : Plain) (text : Text) (s : SlotId) : Type 0 where
  pub stands : Stands z p s
  pub stage : stage_at p s ≡ Live
  pub is : IsText text
  pub reads : Reads p s text

-- no cell holds a record with this text
abbrev pub NoRecord : Area → Plain → Text → Type 0
NoRecord z p text = (s : SlotId) → ¬ (IsRecord z p text s)

-- no cell holds a record with this text, and the view tells of none
pub record IsNew (z : Area) (p : Plain) (v : View) (text : Text) : Type 0 where
  pub none : NoRecord z p text
  pub untold : TellsNone v text

-- some cell is null where the seat may bind a head more, and not more was granted than there are cells
abbrev pub HasRoom : Area → Plain → View → Type 0
HasRoom z p v =
    MayBind v → sum z.interns ≤ z.cells
    → (c : ℕ) × (c < z.cells) × (cell z p c ≡ None)
