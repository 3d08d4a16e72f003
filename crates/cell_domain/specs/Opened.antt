-- A domain that was opened for some work, and its seats.
use Rattle.std.specs.Prelude.{ℕ, ◌≡◌, ◌<◌, ◌+◌, ◌*◌, ◌^◌, ◌%◌, List, ◌∷◌, length, map, slice_index_or}
use Rattle.std.specs.List.{range_with_len}
use Rattle.cell_lanes.specs.Lanes.{lane_tickets}
use Rattle.cell_lanes.specs.Ready.{IsReady}
use Rattle.cell_lanes.specs.cell_calls.Cells.{area_of}
use Rattle.cell_lanes.specs.cell_calls.cell_law.Owned.{first_view}
use Rattle.cell_lanes.specs.cell_calls.cell_law.declared.view.View.{View}
use Rattle.cell_lanes.specs.cell_calls.cell_protocol.declared.law.CellLaw.{CellLaw}
use Rattle.epoch_refs.specs.Walks.{IsFree}
use Rattle.epoch_refs.specs.epoch_core.core_events.declared.shape.Quota.{Quota}
use Rattle.epoch_refs.specs.epoch_core.declared.shape.EpochShape.{EpochShape}
use Rattle.epoch_refs.specs.epoch_domain.Domains.{DomainState}
use Rattle.epoch_refs.specs.epoch_domain.Openings.{begun_seat, without_room}
use Rattle.epoch_refs.specs.epoch_domain.Seats.{SeatState}
use Rattle.lane_work.specs.Sizes.{all_pieces, slots_of_words}
use Rattle.lane_work.specs.Work.{files_in, words_of_all}
use Rattle.lane_work.specs.declared.work.Work.{Work}

-- WHAT EACH LANE COUNTS
-- of so many lanes the one that takes the ticket
abbrev pub taker : Work → ℕ → ℕ → ℕ
taker work lanes ticket = (ticket % files_in work) % lanes

-- the words of the files that lane i takes, in all rounds, in order
abbrev pub lane_words : Work → ℕ → ℕ → List (List ℕ)
lane_words work lanes i = words_of_all work (lane_tickets work lanes i)

-- a number of the words of each lane, in order
abbrev pub by_lane : (List (List ℕ) → ℕ) → Work → ℕ → List ℕ
by_lane f work lanes = map (λ i. f (lane_words work lanes i)) (range_with_len 0 lanes)

-- THE DOMAIN
-- two cells for each piece of all rounds, and one more
abbrev pub cells_for : Work → ℕ
cells_for work = 2 * (work.rounds * all_pieces work) + 1

abbrev pub shape_for : Work → ℕ → ℕ → EpochShape
shape_for work lanes slots = record { seats = lanes + 1; slots = slots; cells = cells_for work }

-- so many makes, and as many adds as a seat may ever use
abbrev pub quota_of : ℕ → Quota
quota_of makes = record { makes = makes; adds = 2 ^ 40 }

-- seat 0 makes nothing, and a lane may make each slot of the records of its words, if no two share one
abbrev pub quotas_for : Work → ℕ → List Quota
quotas_for work lanes = quota_of 0 ∷ map quota_of (by_lane slots_of_words work lanes)

-- seat 0 may put no head into a cell, and a lane one for each of its words
abbrev pub grants_for : Work → ℕ → List ℕ
grants_for work lanes = 0 ∷ by_lane (λ words. length words) work lanes

-- the domain for this work, so many lanes and so many slots
pub record IsDomainFor (work : Work) (lanes slots : ℕ) (d : DomainState CellLaw) : Type 0 where
  pub shape : d.shape ≡ shape_for work lanes slots
  pub quotas : d.quotas ≡ quotas_for work lanes
  pub first : d.protocol.first ≡ 0
  pub cells : d.protocol.cells ≡ cells_for work
  pub grants : d.protocol.grants.items ≡ grants_for work lanes

-- ITS SEATS
-- It is seat n as it was opened, but for its room. So it owns nothing, nothing of it is pending or dying, it has made
-- nothing and used no make and no add, its trail is empty, and no seat has left. It has noted, found and bound no head,
-- and may bind as many as were granted to it.
abbrev pub IsFresh : DomainState CellLaw → ℕ → SeatState View → Type 0
IsFresh d n seat = without_room seat ≡ begun_seat (first_view (area_of d.protocol)) d n

-- lane i has done nothing yet; its seat is the one after seat 0 and those of the lanes before it
pub record CanBegin (d : DomainState CellLaw) (i : ℕ) (seat : SeatState View) : Type 0 where
  pub ready : IsReady d seat
  pub fresh : IsFresh d (i + 1) seat

-- the seats of so many lanes, in order
pub record AreLanes (d : DomainState CellLaw) (lanes : ℕ) (seats : List (SeatState View))
    : Type 0 where
  pub many : length seats ≡ lanes
  pub each :
      (i : ℕ) (seat : SeatState View) → i < lanes → CanBegin d i (slice_index_or seats i seat)

-- seat 0 has done nothing yet
pub record IsNewRoot (d : DomainState CellLaw) (root : SeatState View) : Type 0 where
  pub free : IsFree d root
  pub fresh : IsFresh d 0 root
