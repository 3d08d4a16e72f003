-- What each thread is given.
use Rattle.std.specs.Prelude.{ℕ, ◌≡◌, ◌<◌, List, length, slice_index_or}
use Rattle.lane_files.specs.acquire_retire.Domains.{DomainState}
use Rattle.lane_files.specs.acquire_retire.Seats.{SeatState}
use Rattle.lane_files.specs.protocol_pairs.Shares.{FitsItsPart, weight_in_part}
use Rattle.lane_files.specs.queue_protocol.Nodes.{IsNodePayload, node_weight}
use Rattle.lane_files.specs.directory_law.Bytes.{IsPiece, piece_weight}
use Rattle.lane_files.specs.words_law.Views.{View}
use Rattle.lane_files.specs.words_protocol.declared.law.WordsLaw.{WordsLaw}
use Rattle.lane_files.specs.declared.shared.Shared.{Shared}
use Rattle.lane_files.specs.lane_work.declared.work.Work.{Work}
use Rattle.lane_domain.specs.declared.ending.LaneEnd.{LaneEnd}
use Rattle.lane_domain.specs.Ending.{EndsLane}
use Rattle.lane_domain.specs.declared.jobs.Job.{Job}

-- the jobs of the first n seats, each with its place
pub record AreJobs (n : ℕ) (seats : List (SeatState View)) (jobs : List Job) : Type 0 where
  pub many : length jobs ≡ n
  pub each :
      (i : ℕ) (job : Job) (seat : SeatState View) → i < n
      → slice_index_or jobs i job ≡ record { number = i; seat = slice_index_or seats i seat }

-- the payloads of the domain, nodes and those of records, and what they weigh
abbrev pub is_payload : List ℕ → Type 0
is_payload words = FitsItsPart IsNodePayload IsPiece words

abbrev pub weight_of : List ℕ → ℕ
weight_of words = weight_in_part node_weight piece_weight words

-- what the threads answer to some jobs, in their order
pub record AnswerAll (fits : List ℕ → Type 0) (d : DomainState WordsLaw) (on : Shared)
    (work : Work) (jobs : List Job) (endings : List LaneEnd) : Type 0 where
  pub many : length endings ≡ length jobs
  pub each :
      (i : ℕ) (ending : LaneEnd) → i < length jobs
      → (job : Job) × ((other : Job) → slice_index_or jobs i other ≡ job)
      × EndsLane fits d on work job.number job.seat (slice_index_or endings i ending)
