-- Why nothing was counted.
use Rattle.std.specs.Prelude.{ℕ, ◌≡◌, ◌⊎◌, ◌<◌, ◌+◌, ◌*◌, ◌^◌, List, ◌∷◌, ◌++◌, Option, Some, None, Err}
use Rattle.domain_audit.specs.acquire_retire.Calls.{IsOf}
use Rattle.domain_audit.specs.acquire_retire.Domains.{DomainState}
use Rattle.domain_audit.specs.acquire_retire.Seats.{SeatState}
use Rattle.domain_audit.specs.control_word.Resting.{IsSpent}
use Rattle.domain_audit.specs.slot_store.declared.making.MakeError.{MakeError}
use Rattle.domain_audit.specs.slot_store.declared.making.MakeError.TheVariants as unmade
use Rattle.words_rest.specs.queue_law.declared.view.Form.{Form}
use Rattle.words_rest.specs.words_law.Views.{View}
use Rattle.lane_domain.specs.words_protocol.declared.law.WordsLaw.{WordsLaw}
use Rattle.lane_domain.specs.lane_files.lane_work.declared.lane.Lane.{Lane}
use Rattle.lane_domain.specs.lane_files.declared.refusal.LaneStop.{LaneStop}
use Rattle.lane_domain.specs.lane_files.lane_work.declared.work.Work.{Work}
use Rattle.lane_domain.specs.lane_files.Lanes.{StopsLane}
use Rattle.lane_domain.specs.lane_files.Makes.{cause_of}
use Rattle.lane_domain.specs.lane_files.Missing.{HasMissed}
use Rattle.lane_domain.specs.lane_files.Owning.{OwnsNoNode}
use Rattle.lane_domain.specs.lane_files.Scans.{HasScanned}
use Rattle.lane_domain.specs.Opened.{FindsNoSlot, IsDomainFor}
use Rattle.lane_domain.specs.Sizes.{all_parts, all_pieces}
use Rattle.lane_reports.specs.declared.done.Done.{Done}
use Rattle.lane_domain.specs.declared.ending.LaneEnd.{LaneEnd}
use Rattle.lane_reports.specs.Parting.{AllRan}
use Rattle.lane_reports.specs.declared.counted.CountError.{CountError}
use Rattle.lane_reports.specs.declared.counted.CountError.TheVariants as refused

-- what is answered for this cause, with the seat
abbrev pub IsAnswerFor : Option MakeError → SeatState View → CountError → Type 0
IsAnswerFor None seat error = error ≡ refused.OutOfMemory
IsAnswerFor (Some unmade.AddsSpent) seat error = error ≡ refused.Spent seat
IsAnswerFor (Some unmade.MakesSpent) seat error = error ≡ refused.Full seat
IsAnswerFor (Some unmade.Full) seat error = error ≡ refused.Full seat

-- the lane stopped, and this is answered for its cause
abbrev pub IsRefusalOf : LaneEnd → CountError → Type 0
IsRefusalOf ended error =
    (stop : LaneStop) × (ended.end ≡ Err stop) × IsAnswerFor (cause_of stop) ended.seat error

-- There was no memory; or this is answered for one of the lanes, and those before it ran to their end.
abbrev pub IsFirstRefusal : List LaneEnd → CountError → Type 0
IsFirstRefusal ends error =
    (error ≡ refused.OutOfMemory)
    ⊎ ((front : List LaneEnd) × (done : List Done) × (ended : LaneEnd) × (back : List LaneEnd)
    × (ends ≡ front ++ ended ∷ back) × AllRan front done × IsRefusalOf ended error)

module _ (fits : List ℕ → Type 0) (work : Work) (d : DomainState WordsLaw) where
  -- a lane stopped as it found each slot taken; this is its seat
  pub record StopsUnmade (seat : SeatState View) : Type 0 where
    pub begun : SeatState View
    pub before : Lane
    pub after : Lane
    pub stop : LaneStop
    pub stops : StopsLane fits d work stop begun seat before after
    pub cause : cause_of stop ≡ Some unmade.Full

-- A seat of a domain for this work has used all adds of its quota, which is as large as that of any seat.
pub record HasSpentAll (work : Work) (lanes slots : ℕ) (form : Form) (seat : SeatState View)
    : Type 0 where
  pub domain : DomainState WordsLaw
  pub is : IsDomainFor work lanes slots form domain
  pub of_domain : IsOf domain seat
  pub quota : seat.view.core.quota.adds ≡ 2 ^ 40
  pub spent : IsSpent seat.view.core

-- Why nothing was counted: there was no memory; or this seat of a domain for this work has used all of its 2^40 adds;
-- or in a domain for this work, which has fewer slots than makes, seat 0 found each slot taken before the lanes began,
-- or a lane did. It is a seat of that domain, and its own trail shows the search that found each slot taken. It has
-- made at least as many whole scans as it pushed items, and owns no node of the queue.
abbrev pub IsWhyNothing : (List ℕ → Type 0) → Work → ℕ → ℕ → Form → CountError → Type 0
IsWhyNothing fits work lanes slots form refused.OutOfMemory = Unit {0}
IsWhyNothing fits work lanes slots form (refused.Spent seat) =
    HasSpentAll work lanes slots form seat
IsWhyNothing fits work lanes slots form (refused.Full seat) =
    (d : DomainState WordsLaw) × IsDomainFor work lanes slots form d
    × (slots < work.rounds * (all_pieces work + all_parts work) + 2)
    × (FindsNoSlot fits d seat ⊎ StopsUnmade fits work d seat) × HasScanned seat × OwnsNoNode seat
    × IsOf d seat × HasMissed d.shape seat
