-- What the threads answer, in the order of the seats.
use Rattle.std.proofs.Common.{ℕ, ◌<◌, List, sym, subst, ◌∙◌, arith}
use Rattle.std.specs.Prelude.{All, length, slice_index_or}
use Rattle.lane_files.specs.acquire_retire.Domains.{DomainState}
use Rattle.lane_files.specs.acquire_retire.Seats.{SeatState}
use Rattle.lane_files.specs.words_law.Views.{View}
use Rattle.lane_files.specs.words_protocol.declared.law.WordsLaw.{WordsLaw}
use Rattle.lane_files.specs.declared.shared.Shared.{Shared}
use Rattle.lane_files.specs.lane_work.declared.work.Work.{Work}
use Rattle.lane_domain.specs.declared.ending.LaneEnd.{LaneEnd}
use Rattle.lane_domain.specs.declared.jobs.Job.{Job}
use Rattle.lane_domain.specs.Ending.{EndAll, EndsLane}
use Rattle.lane_domain.specs.Jobs.{AnswerAll, AreJobs}

-- what holds of each seat holds of each job's
pub all_jobs : (P : SeatState View → Type 0) (seats : List (SeatState View)) (jobs : List Job)
    → AreJobs (length seats) seats jobs → All P seats → All (λ (job : Job). P job.seat) jobs
all_jobs P seats jobs are all k other low =
    let count = are.many in let less : k < length seats = omega arith in
    subst (λ (job : Job). P job.seat) (sym (are.each k other other.seat less))
    (all k other.seat less)

pub end_all : (fits : List ℕ → Type 0) (d : DomainState WordsLaw) (on : Shared) (work : Work)
    (seats : List (SeatState View)) (jobs : List Job) (endings : List LaneEnd)
    → AreJobs (length seats) seats jobs → AnswerAll fits d on work jobs endings
    → EndAll fits d on work seats endings
end_all fits d on work seats jobs endings are answers = record {
  many = answers.many ∙ are.many;
  each = λ i seat ending less.
      let count = are.many in
      let one = answers.each i ending (omega (arith, count, less)) in
      subst (λ (job : Job). EndsLane fits d on work job.number job.seat
      (slice_index_or endings i ending))
      (sym (one.1 one.0) ∙ are.each i one.0 seat less) one.2;
}
