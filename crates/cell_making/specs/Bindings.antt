-- How a head goes into a cell.
use Rattle.std.specs.Prelude.{ℕ, ◌≡◌, ◌<◌, suc, false, List, ◌∷◌, Some, None, Result, Ok, Err}
use Rattle.control_word.specs.counted_handles.Handles.{Handle}
use Rattle.cell_calls.specs.cell_law.plain_state.declared.slot.SlotId.{SlotId}
use Rattle.cell_calls.specs.cell_law.plain_state.Lists.{times}
use Rattle.cell_calls.specs.cell_law.directory_law.Cells.{on}
use Rattle.cell_calls.specs.cell_law.directory_law.declared.view.Rope.{Rope}
use Rattle.cell_calls.specs.cell_law.directory_law.Payloads.{Text}
use Rattle.cell_calls.specs.cell_law.Making.{WinsCell, sees}
use Rattle.cell_calls.specs.cell_law.Views.{IsWord, Unseen}
use Rattle.cell_calls.specs.cell_law.declared.view.View.{View}
use Rattle.cell_calls.specs.cell_law.Walks.{Walked}
use Rattle.cell_calls.specs.cell_protocol.declared.law.CellLaw.{CellLaw}
use Rattle.cell_calls.specs.Cells.{BindsAlone, area_of}
use Rattle.cell_calls.specs.Keeping.{Learns}
use Rattle.epoch_refs.specs.plain_protocol.plain_state.declared.act.EventPlace.TheVariants.{Cell}
use Rattle.epoch_refs.specs.epoch_core.core_events.Views.{without}
use Rattle.epoch_refs.specs.epoch_core.declared.act.EpochAct.TheVariants as act
use Rattle.epoch_refs.specs.epoch_rule.Told.{Happened}
use Rattle.epoch_refs.specs.epoch_rule.Views.{own_of}
use Rattle.epoch_refs.specs.epoch_domain.Domains.{DomainState}
use Rattle.epoch_refs.specs.epoch_domain.Seats.{SeatState}
use Rattle.cell_making.specs.declared.refusals.BindError.{BindError}
use Rattle.cell_making.specs.declared.refusals.BindError.TheVariants as refused
use Rattle.cell_making.specs.Making.{candidate_in}

-- The seat owns the head s, which it has noted last, with a whole text.
pub record HasHead (text : Text) (s : SlotId) (seat : SeatState View) : Type 0 where
  pub owned : 0 < times s seat.view.core.owned
  pub is_word : IsWord text
  pub others : List Rope
  pub noted : seat.view.client.noted ≡ candidate_in s text seat ∷ others

-- It has such a head, and the walk of the head's text has come to this cell. No cell has been cleared.
pub record CanBind (d : DomainState CellLaw) (cell : ℕ) (s : SlotId) (seat : SeatState View)
    : Type 0 where
  pub text : Text
  pub head : HasHead text s seat
  pub is_open : seat.view.client.cleared ≡ false
  pub passed : ℕ
  pub walked : Walked (area_of d.protocol) (own_of seat.view) seat.view.client text passed
  pub at : cell ≡ on (area_of d.protocol) text passed

-- the view has seen some head in a cell, and nothing else of it has changed
pub record SeesHead (cell : ℕ) (v w : View) : Type 0 where
  pub holder : ℕ
  pub next : w ≡ sees cell (suc holder) v
  pub learns : Learns v w

-- By the one event of the call the head went into the cell: no cell held a record of its text before that event, and
-- the head is this record after it.
abbrev pub WinsAt : DomainState CellLaw → ℕ → SlotId → SeatState View → SeatState View → Type 0
WinsAt d cell s old new =
    Happened d.shape d.quotas old.view.core.seat old.view.core (act.Cas (Cell cell) None (Some s)) 0
    (λ p q. WinsCell (area_of d.protocol) p q old.view.client new.view.client)

-- the head is given back; where the exchange was lost, the view has seen what the cell holds
abbrev pub IsBack : ℕ → Handle → BindError → View → View → Type 0
IsBack cell head (refused.Lost back) v w = (back ≡ head) × SeesHead cell v w
IsBack cell head (refused.OutOfMemory back) v w = (back ≡ head) × (w ≡ v)

-- where the exchange was lost, and the view had seen nothing in the cell, another seat may put heads into cells too
abbrev pub IsAnothers : DomainState CellLaw → ℕ → BindError → SeatState View → Type 0
IsAnothers d cell (refused.Lost back) seat = Unseen seat.view.client cell → ¬ (BindsAlone d seat)
IsAnothers d cell (refused.OutOfMemory back) seat = Unit {0}

-- the references of a seat that has given up this head, or has it still
abbrev pub owned_after : Result (Unit {0}) BindError → SlotId → List SlotId → List SlotId
owned_after (Ok bound) head xs = without head xs
owned_after (Err error) head xs = xs
