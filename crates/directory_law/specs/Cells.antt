-- The cells of a directory, the walk of a text over them, and when a set cell is well.
use Rattle.std.specs.Prelude.{◌≡◌, ◌≢◌, ℕ, zero, suc, ◌+◌, ◌%◌, ◌<◌, false, List, [], Option, Some, None}
use Rattle.plain_protocol.specs.plain_state.declared.act.EventPlace.TheVariants.{WeakCell}
use Rattle.plain_protocol.specs.plain_state.declared.slot.SlotId.{SlotId}
use Rattle.plain_protocol.specs.plain_state.declared.slot.Stage.TheVariants.{Live}
use Rattle.plain_protocol.specs.plain_state.State.{Plain, slot_at, stage_at}
use Rattle.plain_protocol.specs.plain_state.Places.{content}
use Rattle.plain_protocol.specs.Calm.{IsMade}
use Rattle.directory_law.specs.declared.view.GivenTo.{GivenTo}
use Rattle.directory_law.specs.declared.view.GivenTo.TheVariants.{Seats, Tickets}
use Rattle.directory_law.specs.Payloads.{Text, IsHead, IsText}
use Rattle.directory_law.specs.Places.{text_hash}
use Rattle.directory_law.specs.Views.{View, KeptIn, fresh}
use Rattle.directory_law.specs.Chains.{Begins, Reads}

-- a directory: its first weak cell and how many they are; the interns with which each seat begins, and those that
-- each ticket gives
pub record Area : Type 0 where
  pub first : ℕ
  pub cells : ℕ
  pub interns : List ℕ
  pub grants : List ℕ

-- what a list of interns gives to seats, and what it gives to tickets
abbrev pub seat_interns : List ℕ → GivenTo → List ℕ
seat_interns interns Seats = interns
seat_interns interns Tickets = []

abbrev pub ticket_interns : List ℕ → GivenTo → List ℕ
ticket_interns interns Seats = []
ticket_interns interns Tickets = interns

abbrev pub area : ℕ → ℕ → List ℕ → GivenTo → Area
area first cells interns to = record {
  first = first;
  cells = cells;
  interns = seat_interns interns to;
  grants = ticket_interns interns to;
}

-- what cell c of the range holds
abbrev pub cell : Area → Plain → ℕ → Option SlotId
cell z p c = content p (WeakCell (z.first + c))

-- the cell on the walk of a text that comes after k others: it begins at the text's place, and goes around the end
abbrev pub on : Area → Text → ℕ → ℕ
on z text k = (text_hash text + k) % z.cells

-- 1 where a place isn't null
abbrev pub full : Option SlotId → ℕ
full None = 0
full (Some s) = 1

-- how many of the first n cells are set
abbrev pub set_cells : Area → Plain → ℕ → ℕ
set_cells z p zero = 0
set_cells z p (suc n) = set_cells z p n + full (cell z p n)

-- the first k cells of a walk are set
abbrev pub SetBefore : Area → Plain → Text → ℕ → Type 0
SetBefore z p text k = (j : ℕ) → j < k → cell z p (on z text j) ≢ None

-- every cell from the text's place, around the end, to c is set
abbrev pub IsOnWay : Area → Plain → Text → ℕ → Type 0
IsOnWay z p text c = (k : ℕ) × (k < z.cells) × (c ≡ on z text k) × SetBefore z p text k

-- cell c holds s, which is an object, alive or not. A view keeps the cell's text, which the slot has wherever that
-- can be read
pub record SetCell (z : Area) (p : Plain) (views : List View) (c : ℕ) (s : SlotId) : Type 0 where
  pub made : IsMade (stage_at p s)
  pub text : Text
  pub kept : KeptIn views s (slot_at p s).life text
  pub is : IsText text
  pub begins : Begins p s text
  pub reads : stage_at p s ≡ Live → Reads p s text
  pub way : IsOnWay z p text c

-- a live record: a head that lives, has no zero mark, and is no seat's candidate
pub record LiveRecord (p : Plain) (views : List View) (s : SlotId) : Type 0 where
  pub stage : stage_at p s ≡ Live
  pub mark : (slot_at p s).marked ≡ false
  pub head : IsHead (slot_at p s).payload
  pub bound : fresh views s (slot_at p s).life ≡ 0

-- a cell of the range holds s
abbrev pub Stands : Area → Plain → SlotId → Type 0
Stands z p s = (c : ℕ) × (c < z.cells) × (cell z p c ≡ Some s)
