use Rattle.std.specs.Prelude.{All, ◌≡◌, ◌<◌, ◌+◌, length}
use Rattle.seat_life.specs.Free.{IsFree}
use Rattle.seat_life.proofs.threads.numbered.Given as goal

-- each turn takes one seat, and makes one job
abbrev pub invariant-loop-seat : goal.invariant-loop-seat
invariant-loop-seat g l =
    record {
      seats : All (IsFree l.domain) l.seats.items;
      jobs : All (λ job. IsFree l.domain job.1
          × (job.0 < length l.seats.items + length l.jobs.items)) l.jobs.items;
      count : length l.seats.items + length l.jobs.items ≡ length l.fn.seats.items;
      left : length l.seats.items + l._seat ≡ length l.fn.seats.items;
    }
