-- How far the walk of a text has come, and what it meets in a cell.
use Rattle.std.specs.Prelude.{ℕ, ◌≡◌, ◌+◌, ◌<◌, ◌≤◌, false, None}
use Rattle.cell_calls.specs.Cells.{BindsAlone, HasBind, area_of}
use Rattle.cell_calls.specs.cell_law.plain_state.declared.slot.SlotId.{SlotId}
use Rattle.cell_calls.specs.cell_law.plain_state.State.{Plain, slot_at}
use Rattle.cell_calls.specs.cell_law.directory_law.Cells.{Area, on}
use Rattle.cell_calls.specs.cell_law.directory_law.Payloads.{Text}
use Rattle.cell_calls.specs.cell_law.directory_law.Views.{Each, In, rope}
use Rattle.cell_calls.specs.cell_law.directory_law.Walks.{NotPrefix}
use Rattle.cell_calls.specs.cell_law.Cells.{IsRecord, NoRecord, cell}
use Rattle.cell_calls.specs.cell_law.Views.{TellsNone, Unseen}
use Rattle.cell_law.specs.declared.view.Sight.{Sight as Seen}
use Rattle.cell_law.specs.declared.view.View.{View}
use Rattle.cell_calls.specs.cell_law.Walks.{payloads}
use Rattle.cell_calls.specs.cell_protocol.declared.law.CellLaw.{CellLaw}
use Rattle.epoch_domain.specs.epoch_rule.Views.{object_in, own_of}
use Rattle.epoch_domain.specs.Domains.{DomainState}
use Rattle.epoch_domain.specs.Seats.{SeatState}
use Rattle.cell_finding.specs.declared.sought.Sight.{Sight}
use Rattle.cell_finding.specs.declared.sought.Sight.TheVariants as sight
use Rattle.cell_finding.specs.declared.sought.Walk.{Walk}
use Rattle.cell_finding.specs.declared.sought.Walk.TheVariants as walk
use Rattle.cell_finding.specs.Looking.{AtStep, HasSeen}

-- By its view the seat knows that cell c has the record of another text: its region has seen slots of that record, and
-- the text doesn't begin with their payloads.
abbrev pub IsPast : SeatState View → Text → ℕ → Type 0
IsPast seat text c =
    (e : Seen) × In e seat.view.client.seen × (e.cell ≡ c)
    × Each (HasSeen seat.view.core) e.slots
    × NotPrefix (payloads (own_of seat.view) e.slots) text

-- the walk of the text has passed its first so many cells
pub record IsOnWalk (d : DomainState CellLaw) (text : Text) (passed : ℕ)
    (seat : SeatState View) : Type 0 where
  pub is_open : seat.view.client.cleared ≡ false
  pub few : passed ≤ d.shape.cells
  pub walked : (j : ℕ) → j < passed → IsPast seat text (on (area_of d.protocol) text j)

-- the cell to which the walk has come is null, and no cell holds a record of the text
abbrev pub IsNullOn : Area → Text → ℕ → Plain → Type 0
IsNullOn z text passed p = (cell z p (on z text passed) ≡ None) × NoRecord z p text

-- s is the record of the text, in this life
abbrev pub IsRecordIn : Area → Text → SlotId → ℕ → Plain → Type 0
IsRecordIn z text s life p = IsRecord z p text s × ((slot_at p s).life ≡ life)

-- s is the record of the text, and stood in a cell at a step of the call. The view has noted it as found, with the text
-- and in the life in which the seat has it; and the region has seen it.
pub record IsFound (d : DomainState CellLaw) (text : Text) (s : SlotId)
    (old new : SeatState View) : Type 0 where
  pub noted : In (rope s (object_in new.view s).life text) new.view.client.found
  pub seen : HasSeen new.view.core s
  pub stood :
      AtStep d (IsRecordIn (area_of d.protocol) text s (object_in new.view s).life) old new

-- The walk of the text has come to a cell that was null at a step of the call, and no cell held a record of the text
-- then. The view tells of no record of the text, and no slot was seen in that cell.
pub record ComesToNull (d : DomainState CellLaw) (text : Text) (passed : ℕ)
    (old new : SeatState View) : Type 0 where
  pub walk : IsOnWalk d text passed new
  pub null : AtStep d (IsNullOn (area_of d.protocol) text passed) old new
  pub untold : TellsNone new.view.client text
  pub unseen : Unseen new.view.client (on (area_of d.protocol) text passed)

-- The walk of the text has passed all cells: at a step of the call no cell held a record of the text. The view tells of
-- none, and the seat may put no head more into a cell.
pub record GoesAround (d : DomainState CellLaw) (text : Text) (old new : SeatState View)
    : Type 0 where
  pub walk : IsOnWalk d text d.shape.cells new
  pub none : AtStep d (λ p. NoRecord (area_of d.protocol) p text) old new
  pub untold : TellsNone new.view.client text
  pub spent : ¬ (HasBind new)

-- where no other seat may put a head into a cell, the seat has put the record s of the text there itself
abbrev pub IsOwnIfAlone : DomainState CellLaw → Text → SlotId → SeatState View → Type 0
IsOwnIfAlone d text s seat =
    BindsAlone d seat
    → In (rope s (object_in seat.view s).life text) seat.view.client.bound

-- what the walk meets in the cell that comes after so many others
abbrev pub Meets : DomainState CellLaw → Text → ℕ → Sight → SeatState View → SeatState View → Type 0
Meets d text passed sight.Null old new = ComesToNull d text passed old new
Meets d text passed sight.Other old new = IsOnWalk d text (passed + 1) new
Meets d text passed (sight.Record s) old new =
    IsFound d text s old new × IsOwnIfAlone d text s new

-- where a walk ends that has passed `from` cells: at a null cell behind them, at the record of the text, or at the cell
-- where it began
abbrev pub Ends : DomainState CellLaw → Text → ℕ → Walk → SeatState View → SeatState View → Type 0
Ends d text from (walk.Null passed) old new =
    (from ≤ passed) × (passed < d.shape.cells) × ComesToNull d text passed old new
Ends d text from (walk.Record s) old new =
    IsFound d text s old new × IsOwnIfAlone d text s new
Ends d text from walk.Around old new = GoesAround d text old new
