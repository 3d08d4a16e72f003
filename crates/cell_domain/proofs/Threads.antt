-- What the threads answer, in the order of the seats.
use Rattle.std.proofs.Common.{ℕ, ◌<◌, List, sym, subst, ◌∙◌, arith}
use Rattle.std.specs.Prelude.{All, length, slice_index_or}
use Rattle.cell_lanes.specs.cell_calls.cell_law.declared.view.View.{View}
use Rattle.cell_lanes.specs.cell_calls.cell_protocol.declared.law.CellLaw.{CellLaw}
use Rattle.epoch_refs.specs.epoch_domain.Domains.{DomainState}
use Rattle.epoch_refs.specs.epoch_domain.Seats.{SeatState}
use Rattle.lane_work.specs.declared.work.Work.{Work}
use Rattle.cell_domain.specs.Ending.{EndAll, EndsLane}
use Rattle.cell_domain.specs.Jobs.{AnswerAll, AreJobs, CanRun}
use Rattle.cell_domain.specs.Opened.{AreLanes}
use Rattle.cell_domain.specs.declared.ending.LaneEnd.{LaneEnd}
use Rattle.cell_domain.specs.declared.jobs.Job.{Job}

-- each job is that of one lane
pub all_jobs : (d : DomainState CellLaw) (lanes : ℕ) (seats : List (SeatState View))
    (jobs : List Job) → AreJobs (length seats) seats jobs → AreLanes d lanes seats
    → All (CanRun d lanes) jobs
all_jobs d lanes seats jobs are all k other low =
    let count = are.many in let many = all.many in
    let there : k < length seats = omega arith in
    subst (CanRun d lanes) (sym (are.each k other other.seat there)) (record {
      one = omega arith;
      begins = all.each k other.seat (omega arith);
    })

pub end_all : (d : DomainState CellLaw) (work : Work) (lanes : ℕ) (seats : List (SeatState View))
    (jobs : List Job) (endings : List LaneEnd) → AreJobs (length seats) seats jobs
    → AnswerAll d work lanes jobs endings → EndAll d work lanes seats endings
end_all d work lanes seats jobs endings are answers = record {
  many = answers.many ∙ are.many;
  each = λ i seat ending less.
      let count = are.many in
      let one = answers.each i ending (omega (arith, count, less)) in
      subst (λ (job : Job). EndsLane d work lanes job.number job.seat
      (slice_index_or endings i ending))
      (sym (one.1 one.0) ∙ are.each i one.0 seat less) one.2;
}
