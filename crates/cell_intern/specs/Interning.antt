-- What an intern gives its seat, and what it uses makes for.
use Rattle.std.specs.Prelude.{ℕ, ◌≡◌, ◌⊎◌, ◌+◌, ◌<◌, false, ◌∷◌, Result, Ok, Err}
use Rattle.cell_making.specs.counted_handles.Handles.{Handle}
use Rattle.cell_making.specs.cell_calls.Cells.{BindsAlone, IsOver}
use Rattle.cell_making.specs.cell_calls.cell_protocol.declared.law.CellLaw.{CellLaw}
use Rattle.cell_making.specs.epoch_refs.epoch_core.Views.{IsInside}
use Rattle.cell_making.specs.epoch_refs.epoch_domain.Domains.{DomainState}
use Rattle.cell_making.specs.epoch_refs.Walks.{IsAtRest}
use Rattle.cell_making.specs.cell_calls.cell_law.declared.view.View.{View}
use Rattle.cell_making.specs.cell_calls.cell_law.directory_law.Payloads.{Text}
use Rattle.cell_making.specs.cell_calls.cell_law.directory_law.declared.view.Rope.{Rope}
use Rattle.cell_making.specs.cell_calls.cell_law.directory_law.Views.{In, rope}
use Rattle.cell_making.specs.cell_calls.cell_law.plain_state.declared.slot.SlotId.{SlotId}
use Rattle.cell_making.specs.cell_calls.cell_law.plain_state.Lists.{times}
use Rattle.cell_making.specs.cell_calls.cell_law.Views.{TellsNone}
use Rattle.cell_making.specs.cell_calls.cell_law.Walks.{SawAll}
use Rattle.cell_making.specs.epoch_refs.epoch_rule.Views.{object_in}
use Rattle.cell_making.specs.epoch_refs.epoch_domain.Seats.{SeatState}
use Rattle.cell_intern.specs.declared.refusal.InternError.{InternError}
use Rattle.cell_intern.specs.declared.refusal.InternError.TheVariants as refused

-- By its view the seat has found s, or put it into a cell, as the record of the text, in the life in which it has s;
-- and it owns a reference to s.
pub record Has (text : Text) (s : SlotId) (seat : SeatState View) : Type 0 where
  pub listed :
      In (rope s (object_in seat.view s).life text) seat.view.client.found
      ⊎ In (rope s (object_in seat.view s).life text) seat.view.client.bound
  pub owned : 0 < times s seat.view.core.owned

-- the view lists one record of the text more as bound
abbrev pub BindsMore : Text → View → View → Type 0
BindsMore text v w = (e : Rope) × (e.text ≡ text) × (w.bound ≡ e ∷ v.bound)

-- it lists what it listed, or one record of the text more
abbrev pub BindsOne : Text → View → View → Type 0
BindsOne text v w = (w.bound ≡ v.bound) ⊎ BindsMore text v w

-- The view has seen and found more, and it may have bound a record of the text. What it has of seats that left is as it
-- was, and so is how many heads the seat may put into cells in all; cells are cleared or not as they were.
pub record Grows (text : Text) (v w : View) : Type 0 where
  pub saw : SawAll v w
  pub found : (e : Rope) → In e v.found → In e w.found
  pub bound : BindsOne text v w
  pub joined : w.joined ≡ v.joined
  pub grant : w.grant ≡ v.grant
  pub cleared : w.cleared ≡ v.cleared

-- The seat is at rest in an open region, of a domain that keeps records in its cells, which aren't being cleared.
pub record IsInRegion (d : DomainState CellLaw) (seat : SeatState View) : Type 0 where
  pub rest : IsAtRest d seat
  pub inside : IsInside seat.view.core
  pub over : IsOver d
  pub is_open : seat.view.client.cleared ≡ false

-- WHAT MAKES WERE USED FOR
-- The view tells of no record of the text. Where no make was left, or each slot was found taken, fewer makes were used
-- than the text has parts. Where no add was left, the record may have been found; but where no other seat may put heads
-- into cells, no make was used then.
abbrev pub IsForNone : DomainState CellLaw → Text → ℕ → InternError → SeatState View
    → SeatState View → Type 0
IsForNone d text parts refused.AddsSpent old new =
    BindsAlone d old
    → TellsNone new.view.client text ⊎ (new.view.core.makes ≡ old.view.core.makes)
IsForNone d text parts refused.OutOfMemory old new = TellsNone new.view.client text
IsForNone d text parts refused.MakesSpent old new =
    TellsNone new.view.client text × (new.view.core.makes < old.view.core.makes + parts)
IsForNone d text parts refused.Full old new =
    TellsNone new.view.client text × (new.view.core.makes < old.view.core.makes + parts)

-- Where no other seat may put heads into cells, an answer has used no make, or has put a record of the text into a
-- cell. A refusal has put none there.
abbrev pub MakesForBinds : DomainState CellLaw → Text → ℕ → Result Handle InternError
    → SeatState View → SeatState View → Type 0
MakesForBinds d text parts (Ok head) old new =
    BindsAlone d old
    → (new.view.core.makes ≡ old.view.core.makes)
    ⊎ BindsMore text old.view.client new.view.client
MakesForBinds d text parts (Err error) old new =
    (new.view.client.bound ≡ old.view.client.bound) × IsForNone d text parts error old new
