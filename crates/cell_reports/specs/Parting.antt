-- Which lanes ran to their end, and what is answered for one that didn't.
use Rattle.std.specs.Prelude.{◌≡◌, ◌⊎◌, List, [], ◌∷◌, ◌++◌, Ok, Err}
use Rattle.cell_domain.specs.declared.ending.LaneEnd.{LaneEnd}
use Rattle.cell_domain.specs.cell_lanes.Ready.{IsReady}
use Rattle.cell_domain.specs.cell_lanes.cell_calls.Keeping.{GoesUnclaimed}
use Rattle.cell_domain.specs.cell_lanes.cell_calls.cell_law.Views.{AreDistinct, texts_of}
use Rattle.cell_domain.specs.cell_lanes.cell_calls.cell_law.declared.view.View.{View}
use Rattle.cell_domain.specs.cell_lanes.cell_calls.cell_protocol.declared.law.CellLaw.{CellLaw}
use Rattle.cell_domain.specs.cell_lanes.declared.refusal.LaneStop.{LaneStop}
use Rattle.cell_domain.specs.cell_lanes.declared.refusal.LaneStop.TheVariants as stopped
use Rattle.cell_domain.specs.epoch_refs.epoch_domain.Domains.{DomainState}
use Rattle.cell_domain.specs.epoch_refs.epoch_domain.Seats.{SeatState}
use Rattle.cell_gathering.specs.declared.done.Done.{Done}
use Rattle.cell_reports.specs.declared.counted.EpochCountError.{EpochCountError}
use Rattle.cell_reports.specs.declared.counted.EpochCountError.TheVariants as refused

-- the lane ran to its end, and this is its seat, with what the lane has beside it
abbrev pub RanToEnd : LaneEnd → Done → Type 0
RanToEnd ended done =
    (ended.end ≡ Ok tt) × (done ≡ record { seat = ended.seat; lane = ended.lane })

-- all lanes did, and these are theirs, in order
abbrev pub AllRan : List LaneEnd → List Done → Type 0
AllRan [] [] = Unit {0}
AllRan [] (one ∷ done) = ⊥
AllRan (ended ∷ ends) [] = ⊥
AllRan (ended ∷ ends) (one ∷ done) = RanToEnd ended one × AllRan ends done

-- The seat has learnt that the heads that it put into cells have different texts. Its trail goes on, by no claim of a
-- slot, and nothing else has changed of what it has and what its view tells.
pub record LearnsHeads (old new : SeatState View) : Type 0 where
  pub table : new.table ≡ old.table
  pub core : new.view.core ≡ record old.view.core { trail = new.view.core.trail }
  pub goes : GoesUnclaimed old.view.core new.view.core
  pub client : new.view.client ≡ old.view.client
  pub heads : AreDistinct (texts_of new.view.client.bound)

-- its seat is in the middle of nothing, and its region is closed
abbrev pub IsReadyEnd : DomainState CellLaw → LaneEnd → Type 0
IsReadyEnd d ended = IsReady d ended.seat

-- what is answered for this cause, with the seat, which has learnt of its heads where each slot was found taken
abbrev pub IsAnswerFor : LaneStop → SeatState View → EpochCountError → Type 0
IsAnswerFor stopped.MakesSpent seat error = error ≡ refused.Full seat
IsAnswerFor stopped.AddsSpent seat error = error ≡ refused.Spent seat
IsAnswerFor stopped.Full seat error =
    (after : SeatState View) × LearnsHeads seat after × (error ≡ refused.Full after)
IsAnswerFor stopped.OutOfMemory seat error = error ≡ refused.OutOfMemory

-- the lane stopped, and this is answered for its cause
abbrev pub IsRefusalOf : LaneEnd → EpochCountError → Type 0
IsRefusalOf ended error =
    (stop : LaneStop) × (ended.end ≡ Err stop) × IsAnswerFor stop ended.seat error

-- There was no memory; or this is answered for one of the lanes, and those before it ran to their end.
abbrev pub IsFirstRefusal : List LaneEnd → EpochCountError → Type 0
IsFirstRefusal ends error =
    (error ≡ refused.OutOfMemory)
    ⊎ ((front : List LaneEnd) × (done : List Done) × (ended : LaneEnd) × (back : List LaneEnd)
    × (ends ≡ front ++ ended ∷ back) × AllRan front done × IsRefusalOf ended error)
