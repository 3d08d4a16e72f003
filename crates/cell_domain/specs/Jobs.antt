-- What each thread is given.
use Rattle.std.specs.Prelude.{ℕ, ◌≡◌, ◌<◌, List, length, slice_index_or}
use Rattle.cell_lanes.specs.cell_calls.cell_law.declared.view.View.{View}
use Rattle.cell_lanes.specs.cell_calls.cell_protocol.declared.law.CellLaw.{CellLaw}
use Rattle.epoch_refs.specs.epoch_domain.Domains.{DomainState}
use Rattle.epoch_refs.specs.epoch_domain.Seats.{SeatState}
use Rattle.lane_work.specs.Sizes.{IsWithinLimits}
use Rattle.lane_work.specs.Work.{IsWork}
use Rattle.lane_work.specs.declared.work.Work.{Work}
use Rattle.cell_domain.specs.Ending.{EndsLane}
use Rattle.cell_domain.specs.Opened.{CanBegin, IsDomainFor}
use Rattle.cell_domain.specs.declared.ending.LaneEnd.{LaneEnd}
use Rattle.cell_domain.specs.declared.jobs.Job.{Job}

-- the domain was opened for this work and so many lanes
pub record IsFor (work : Work) (lanes : ℕ) (d : DomainState CellLaw) : Type 0 where
  pub work_is : IsWork work
  pub within : IsWithinLimits work
  pub domain : IsDomainFor work lanes d.shape.slots d

-- the job is that of one of so many lanes, which has done nothing yet
pub record CanRun (d : DomainState CellLaw) (lanes : ℕ) (job : Job) : Type 0 where
  pub one : job.number < lanes
  pub begins : CanBegin d job.number job.seat

-- the jobs of the first n seats, each with its place
pub record AreJobs (n : ℕ) (seats : List (SeatState View)) (jobs : List Job) : Type 0 where
  pub many : length jobs ≡ n
  pub each :
      (i : ℕ) (job : Job) (seat : SeatState View) → i < n
      → slice_index_or jobs i job ≡ record { number = i; seat = slice_index_or seats i seat }

-- what the threads answer to some jobs, in their order
pub record AnswerAll (d : DomainState CellLaw) (work : Work) (lanes : ℕ) (jobs : List Job)
    (endings : List LaneEnd) : Type 0 where
  pub many : length endings ≡ length jobs
  pub each :
      (i : ℕ) (ending : LaneEnd) → i < length jobs
      → (job : Job) × ((other : Job) → slice_index_or jobs i other ≡ job)
      × EndsLane d work lanes job.number job.seat (slice_index_or endings i ending)
