-- Why nothing was counted.
use Rattle.std.specs.Prelude.{ℕ, ◌≡◌, ◌≢◌, ◌<◌, ◌*◌, ◌^◌, ◌++◌, All, List, length}
use Rattle.cell_domain.specs.Opened.{IsDomainFor}
use Rattle.cell_domain.specs.cell_lanes.cell_calls.Keeping.{ClaimNone}
use Rattle.cell_domain.specs.cell_lanes.cell_calls.cell_law.declared.view.View.{View}
use Rattle.cell_domain.specs.cell_lanes.cell_calls.cell_law.plain_state.declared.slot.SlotId.{SlotId}
use Rattle.cell_domain.specs.cell_lanes.cell_calls.cell_law.plain_state.Lists.{times}
use Rattle.cell_domain.specs.cell_lanes.cell_calls.cell_protocol.declared.law.CellLaw.{CellLaw}
use Rattle.cell_domain.specs.epoch_refs.Calls.{IsSpent}
use Rattle.cell_domain.specs.epoch_refs.Searching.{Try, taken_by, tried}
use Rattle.cell_domain.specs.epoch_refs.epoch_core.Words.{free_word}
use Rattle.cell_domain.specs.epoch_refs.epoch_core.declared.view.EpochMove.{EpochMove}
use Rattle.cell_domain.specs.epoch_refs.epoch_domain.Calls.{IsOf}
use Rattle.cell_domain.specs.epoch_refs.epoch_domain.Domains.{DomainState}
use Rattle.cell_domain.specs.epoch_refs.epoch_domain.Seats.{SeatState}
use Rattle.cell_domain.specs.lane_work.Sizes.{all_parts, slots_of_words, texts_in}
use Rattle.cell_domain.specs.lane_work.declared.work.Work.{Work}
use Rattle.cell_gathering.specs.cdrc_text.Fold.{AreDistinct}
use Rattle.cell_reports.specs.declared.counted.EpochCountError.{EpochCountError}
use Rattle.cell_reports.specs.declared.counted.EpochCountError.TheVariants as refused

-- A seat of a domain for this work has used all adds of its quota, which is as large as that of any seat.
pub record HasSpentAll (work : Work) (lanes slots : ℕ) (seat : SeatState View) : Type 0 where
  pub domain : DomainState CellLaw
  pub is : IsDomainFor work lanes slots domain
  pub of_domain : IsOf domain seat
  pub quota : seat.view.core.quota.adds ≡ 2 ^ 40
  pub spent : IsSpent seat.view.core

-- The seat's trail shows a search that claimed all of so many slots, one after another, each once, and found each of
-- them taken: by a count word that isn't that of a free slot. It is the seat's last try to make anything.
pub record ShowsAllTaken (slots : ℕ) (seat : SeatState View) : Type 0 where
  pub tries : List Try
  pub words : All (λ t. t.word ≢ free_word) tries
  pub each : (s : SlotId) → s.0 < slots → times s (tried tries) ≡ 1
  pub few : length tries ≡ slots
  pub front : List EpochMove
  pub back : List EpochMove
  pub trail : seat.view.core.trail ≡ front ++ (taken_by tries ++ back)
  pub last : ClaimNone back

-- In a domain for this work a seat found each slot taken, as its own trail shows. There are fewer slots than the
-- records of all pieces in all rounds have, if no two pieces share one. With one lane there are fewer than the records
-- of the distinct words of the files have.
pub record HasMissedAll (work : Work) (lanes slots : ℕ) (seat : SeatState View) : Type 0 where
  pub domain : DomainState CellLaw
  pub is : IsDomainFor work lanes slots domain
  pub of_domain : IsOf domain seat
  pub few : slots < work.rounds * all_parts work
  pub taken : ShowsAllTaken slots seat
  pub one :
      lanes ≡ 1 → (words : List (List ℕ)) → AreDistinct (texts_in work) words
      → slots < slots_of_words words

-- Why nothing was counted: there was no memory; or this seat has used all of its 2^40 adds; or it found each slot
-- taken.
abbrev pub IsWhyNothing : Work → ℕ → ℕ → EpochCountError → Type 0
IsWhyNothing work lanes slots refused.OutOfMemory = Unit {0}
IsWhyNothing work lanes slots (refused.Spent seat) = HasSpentAll work lanes slots seat
IsWhyNothing work lanes slots (refused.Full seat) = HasMissedAll work lanes slots seat
